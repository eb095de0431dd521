-- What a removal leaves: its merges, the files that stay, and the limit on its copies. Definitions only.
use Rattle.std.specs.Prelude.{List, ◌∷◌, ◌≡◌, ◌≤◌, ℕ, length}
use Rattle.layout.specs.Carries.{carries}
use Rattle.layout.specs.Layout.{File, Layout, blocks_of, file_blocks, free_blocks}
use Rattle.layout.specs.Lists.{Zipped}
use Rattle.layout.specs.Merges.{MergedAll, Moved}
use Rattle.layout.specs.Removing.{Merge, copies_of, layout_after, release}
use Rattle.layout.specs.Sums.{SoundSums}

-- f is the file of id i, and r the others
pub data Find (i : ℕ) : List File → File → List File → Type 0 where
  here : {f : File} {l : List File} → f.id ≡ i → Find i (f ∷ l) f l
  there : {g f : File} {l r : List File} → (g.id ≡ i → ⊥) → Find i l f r → Find i (g ∷ l) f (g ∷ r)

-- what a removal of f leaves
pub record Removes (K : ℕ) (l : Layout) (f : File) (r : List File) (ms : List Merge) : Type 0 where
  pub steps : MergedAll l.blocks K (release f l) ms
  pub sound : SoundSums K (layout_after (release f l) ms)
  pub blocks : (layout_after (release f l) ms).blocks ≡ l.blocks
  pub limit : length (copies_of ms) ≤ carries K (free_blocks l) (file_blocks f)
  pub files : Zipped (Moved (copies_of ms)) r (layout_after (release f l) ms).files

-- g is the file f with each page at the same or a higher block
pub record NoLower (f g : File) : Type 0 where
  pub id : g.id ≡ f.id
  pub pages : Zipped (λ x y. x ≤ y) (blocks_of f.pieces) (blocks_of g.pieces)
