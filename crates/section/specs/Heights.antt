-- Heights and lengths: a length is one of 1, 2, 4 up to 2 to the greatest height; anything else is no length.
-- Definitions only.
use Rattle.std.specs.Prelude.{◌≡◌, cond, ℕ, zero, suc, ◌^◌, ◌<◌, ◌≤◌, eqb, Option, Some, None}
use Rattle.section.specs.Limits.{greatest_height}
use Rattle.section.specs.declared.Height.{Height}

abbrev pub NoHigher : Height → Type 0
NoHigher h = h.value ≤ greatest_height

-- n is the length of h; with the bounds that sums of lengths want
pub record IsLength (h : Height) (n : ℕ) : Type 0 where
  pub equal : n ≡ 2 ^ h.value
  pub positive : 0 < n
  pub most : n ≤ 2 ^ greatest_height

-- the height up to m whose length is n, if one is
abbrev pub height_up_to : ℕ → ℕ → Option Height
height_up_to zero n = cond (eqb n 1) (Some (record { value = 0 })) None
height_up_to (suc m) n =
    cond (eqb n (2 ^ suc m)) (Some (record { value = suc m })) (height_up_to m n)

-- the height whose length is n, if n is a length
unfoldable pub height_of : ℕ → Option Height
height_of n = height_up_to greatest_height n
