-- The free pieces of a fresh disk, height by height. Assumes nothing.
use Rattle.piece.specs.Packed.{seen, section_in}
use Rattle.piece.proofs.Seen.{seen-length, seen-set}
use Rattle.piece.specs.declared.Piece.{Piece}
use mathlib.Core.List.{List, [], ◌++◌, append-nil}
use mathlib.Core.Path.{◌∙◌, ◌≡◌, ap, ap₂, sym}
use Prim.Native.Nat.{◌%◌, ◌*◌, ◌+◌, ◌-◌, ◌<◌, ◌^◌, ◌≤◌, suc, ℕ}
use native.Mathlib.Nat.{mod-eq_of_lt, mod-le}
use native.Mathlib.Omega.{arith}
use lib.ListN.{length, set, take}
use lib.Seq.{append_snoc}
use Rattle.layout.proofs.Allocating.{mod-digit}
use Rattle.layout.proofs.PiecesFrom.{pieces_from-cons, pieces_from_nil, pieces_from_skip}
use Rattle.layout.specs.Layout.{digit, pieces_from}
use Rattle.section.specs.Limits.{greatest_disk, height_count}
use Rattle.section.specs.Sections.{section}
use Rattle.section.specs.declared.Section.{Section}
use Rattle.free_pieces.proofs.LaidMore.{pushed}
use Rattle.piece_lists.specs.Few.{list_of}
use Rattle.piece_lists.specs.declared.Pieces.{Pieces}

-- the pieces so far, and those for the ones of c below height h, which start where the higher ones end
unfoldable pub pieces_with : ℕ → ℕ → Pieces → List Section
pieces_with c h f = list_of f ++ pieces_from h c (c - c % 2 ^ h)

-- ---- one height

module _ (c h : ℕ) where
  -- no piece of this height
  pub pieces_skip : (f : Pieces) → digit h c ≡ 0 → pieces_with c h f ≡ pieces_with c (suc h) f
  unfolding pieces_with
  pieces_skip f e =
      let eq : c % 2 ^ suc h ≡ c % 2 ^ h = mod-digit c h ∙ (ap (λ z. z * 2 ^ h + c % 2 ^ h) e ∙ omega arith) in
      ap (λ z. list_of f ++ z)
      (sym (ap (λ z. pieces_from (suc h) c (c - z)) eq ∙ pieces_from_skip h c (c - c % 2 ^ h) e))

  -- one, which starts where the higher ones end
  pub pieces_push : (f : Pieces) (x : ℕ) (p : Piece) → section_in p ≡ section x h → digit h c ≡ 1
      → x ≡ c - c % 2 ^ suc h → f.count < length f.items
      → pieces_with c h (record { count = f.count + 1; items = set f.items f.count p }) ≡ pieces_with c (suc h) f
  unfolding pieces_with list_of
  pieces_push f x p k e g l =
      let n = seen-length f.items in
      let eq : c % 2 ^ suc h ≡ 2 ^ h + c % 2 ^ h =
      mod-digit c h ∙ (ap (λ z. z * 2 ^ h + c % 2 ^ h) e ∙ omega arith) in
      let on : c - c % 2 ^ h ≡ x + 2 ^ h = omega (arith, mod-le c (2 ^ suc h)) in
      ap₂ (λ a y. a ++ pieces_from h c y)
      (ap (take (f.count + 1)) (seen-set f.items f.count p ∙ ap (set (seen f.items) f.count) k)
      ∙ pushed (seen f.items) f.count (section x h) (omega arith)) on
      ∙ (append_snoc (take f.count (seen f.items)) (section x h) (pieces_from h c (x + 2 ^ h))
      ∙ ap (λ z. take f.count (seen f.items) ++ z)
      (sym (ap (pieces_from (suc h) c) (sym g) ∙ pieces_from-cons h c x e)))

-- ---- from the first height to the last

pub pieces_start : (c : ℕ) (f : Pieces) → c ≤ greatest_disk → list_of f ≡ []
    → pieces_with c height_count f ≡ pieces_from height_count c 0
unfolding pieces_with
pieces_start c f p e =
    let m : c % 2 ^ height_count ≡ c = mod-eq_of_lt (omega arith) in
    let z : c - c % 2 ^ height_count ≡ 0 = omega (arith, m) in
    ap₂ (λ a y. a ++ pieces_from height_count c y) e z

pub pieces_end : (c h : ℕ) (f : Pieces) → h ≡ 0 → list_of f ≡ pieces_with c h f
unfolding pieces_with
pieces_end c h f e =
    let x = c - c % 2 ^ h in
    sym (append-nil (list_of f))
    ∙ ap (λ l. list_of f ++ l) (sym (pieces_from_nil c x) ∙ ap (λ k. pieces_from k c x) (sym e))
