-- Pieces put at the end of a list, one after another. Assumes nothing.
use mathlib.Core.List.{List, [], ◌++◌, ◌∷◌, append_assoc, append-nil, map}
use mathlib.Core.Path.{◌∙◌, ◌≡◌, ap, refl, sym}
use Prim.Native.Nat.{◌+◌, ◌<◌, ℕ}
use native.Mathlib.Numerals.{add-one}
use lib.ListN.{get_or, length, set, take}
use lib.Seq.{take-suc, take-suc-set}
use Rattle.layout.proofs.Lists.{map-append}
use Rattle.layout.specs.Layout.{File, file_pieces}
use Rattle.table.specs.Tables.{file_of, pieces_in}
use Rattle.table.specs.declared.Entry.{Entry}

pub pushed {ℓ} : {A : Type ℓ} (p : List A) (m : ℕ) (a : A) → m < length p
    → take (m + 1) (set p m a) ≡ take m p ++ (a ∷ [])
pushed p m a h = rw add-one (take-suc-set p m a h)

-- what stands where there is no file
abbrev pub blank_entry : Entry
blank_entry = record { id = 0; pieces = record { count = 0; items = [] } }

-- the files of the first i entries
abbrev pub files_to : ℕ → List Entry → List File
files_to i files = map file_of (take i files)

pieces_append : (fs gs : List File) → file_pieces (fs ++ gs) ≡ file_pieces fs ++ file_pieces gs
unfolding file_pieces
pieces_append [] gs = refl
pieces_append (f ∷ fs) gs =
    ap (λ z. f.pieces ++ z) (pieces_append fs gs) ∙ sym (append_assoc f.pieces (file_pieces fs) (file_pieces gs))

one-file : (f : File) → file_pieces (f ∷ []) ≡ f.pieces
unfolding file_pieces
one-file f = append-nil f.pieces

pub file_pieces_more : (files : List Entry) (i : ℕ) → i < length files
    → file_pieces (files_to (i + 1) files) ≡ file_pieces (files_to i files) ++ pieces_in (get_or files i blank_entry)
file_pieces_more files i h =
    ap (λ k. file_pieces (files_to k files)) (add-one i)
    ∙ (ap (λ z. file_pieces (map file_of z)) (take-suc files i blank_entry h)
    ∙ (ap file_pieces (map-append file_of (take i files) (get_or files i blank_entry ∷ []))
    ∙ (pieces_append (files_to i files) (file_of (get_or files i blank_entry) ∷ [])
    ∙ ap (λ z. file_pieces (files_to i files) ++ z) (one-file (file_of (get_or files i blank_entry))))))
