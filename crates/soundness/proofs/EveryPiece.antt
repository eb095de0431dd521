-- A test that every piece passes, over lists that are joined, and over the files of a table. Assumes nothing.
use mathlib.Core.Bool.{Bool, ◌&&◌, false, true}
use mathlib.Core.List.{List, [], ◌++◌, ◌∷◌, map}
use mathlib.Core.Path.{◌∙◌, ◌≡◌, ap, refl, sym}
use Prim.Native.Nat.{◌<◌, suc, zero, ℕ}
use native.Mathlib.Omega.{arith}
use lib.ListN.{get_or, length}
use Rattle.catalogue.specs.Reading.{every}
use Rattle.layout.specs.Layout.{file_pieces}
use Rattle.section.proofs.Booleans.{and_true}
use Rattle.section.specs.declared.Section.{Section}
use Rattle.soundness.proofs.Joined.{blank_entry}
use Rattle.table.specs.Tables.{file_of, pieces_in}
use Rattle.table.specs.declared.Entry.{Entry}

and_assoc : (a b c : Bool) → a && (b && c) ≡ (a && b) && c
and_assoc true b c = refl
and_assoc false b c = refl

module _ (p : Section → Bool) where
  every_append : (l k : List Section) → every p (l ++ k) ≡ every p l && every p k
  unfolding every
  every_append [] k = refl
  every_append (a ∷ l) k = ap (λ t. p a && t) (every_append l k) ∙ and_assoc (p a) (every p l) (every p k)

  -- where all of l pass, those of k decide
  pub every_joined : (l k : List Section) → every p l ≡ true → every p (l ++ k) ≡ every p k
  every_joined l k e = every_append l k ∙ ap (λ t. t && every p k) e

  -- where all of both pass, all of l do
  pub every_front : (l k : List Section) → every p (l ++ k) ≡ true → every p l ≡ true
  every_front l k e = (and_true (every p l) (every p k) (sym (every_append l k) ∙ e)).0

  -- where the pieces of all files pass, those of each one do
  pub every_file : (files : List Entry) (i : ℕ) → i < length files
      → every p (file_pieces (map file_of files)) ≡ true → every p (pieces_in (get_or files i blank_entry)) ≡ true
  unfolding file_pieces
  every_file [] i h e = absurd (omega arith)
  every_file (f ∷ files) zero h e = every_front (pieces_in f) (file_pieces (map file_of files)) e
  every_file (f ∷ files) (suc i) h e =
      every_file files i (omega arith)
      (and_true (every p (pieces_in f)) (every p (file_pieces (map file_of files)))
      (sym (every_append (pieces_in f) (file_pieces (map file_of files))) ∙ e)).1
