-- Merging as document 01 words it: for h from 0 up, while height h has two or more free pieces, two of them are
-- merged, those that step 1 takes. Definitions only.
use Rattle.std.specs.Prelude.{List, [], ◌∷◌, ◌++◌, ℕ, zero, suc, length}
use Rattle.layout.specs.Layout.{Layout}
use Rattle.layout.specs.Removing.{Merge, pair, fewer, merge_pair, merge, layout_after}

-- while height h has two or more free pieces, two of them are merged; at most n times
unfoldable pub merges_at : ℕ → ℕ → Layout → List Merge
merges_at zero h w = []
merges_at (suc n) h w =
    elim (merge_pair h w.free) as (λ _. List Merge) [
      | pair l u others ↦ merge l u others w ∷ merges_at n h (merge l u others w).after
      | fewer ↦ []
    ]

-- all that the while of height h merges: each merge leaves one free piece less, so there are fewer than free pieces
abbrev pub merges_of_height : ℕ → Layout → List Merge
merges_of_height h w = merges_at (length w.free) h w

-- for the k heights from h up, one after another
unfoldable pub merges_from : ℕ → ℕ → Layout → List Merge
merges_from zero h w = []
merges_from (suc k) h w = merges_of_height h w ++ merges_from k (suc h) (layout_after w (merges_of_height h w))
