-- What adding takes from the free sections, and what it leaves of them. Definitions only.
use Rattle.std.specs.Prelude.{List, [], ◌∷◌, ◌≡◌, ◌%◌, ◌+◌, ◌<◌, ◌^◌, ◌≤◌, suc, zero, ℕ}
use Rattle.section.specs.Sections.{length_of, section}
use Rattle.section.specs.declared.Section.{Section}
use Rattle.layout.specs.Covering.{AtMostOne, Falling, Rising}
use Rattle.layout.specs.Choices.{Takes}
use Rattle.layout.specs.Layout.{OnDisk, has_height, holds_block}
use Rattle.layout.specs.Lists.{Each, sum_of}

-- the free sections of a disk of c blocks, or the ones left while a file is placed
pub record Stock (c : ℕ) (l : List Section) : Type 0 where
  pub disk : Each (OnDisk c) l
  pub rising : Rising l
  pub thin : AtMostOne l

-- the pieces s are taken for the digits of n below height h, and r is left of free
pub record Allocates (c h n : ℕ) (free s r : List Section) : Type 0 where
  pub on : Each (OnDisk c) s
  pub falling : Falling s
  pub lower : Each (λ (a : Section). a.height.value < h) s
  pub stock : Stock c r
  -- every free block is in one of the pieces or still free
  pub held : (x : ℕ) → sum_of (holds_block x) free ≡ sum_of (holds_block x) s + sum_of (holds_block x) r
  pub size : sum_of length_of free ≡ sum_of length_of s + sum_of length_of r
  -- the pieces have as many blocks as the digits say
  pub blocks : sum_of length_of s ≡ n % 2 ^ h

-- the upper halves of m splits, of the heights from h up, of what begins at x
unfoldable pub upper_halves : ℕ → ℕ → ℕ → List Section
upper_halves zero h x = []
upper_halves (suc m) h x = section (x + 2 ^ h) h ∷ upper_halves m (suc h) x

-- how s of height h comes out of the free pieces, at most k heights up, and leaves r
pub record ComesFrom (k h : ℕ) (free : List Section) (s : Section) (r : List Section) : Type 0 where
  -- the free piece that is taken, the lowest of its height, and the others
  pub source : Section
  pub others : List Section
  pub listed : Takes (has_height source.height.value) free source others
  -- it is split as often as it is higher, and no free piece between the two heights is passed over
  pub splits : ℕ
  pub height : source.height.value ≡ h + splits
  pub reach : splits ≤ k
  pub lowest : Each (λ (a : Section). h ≤ a.height.value → a.height.value < source.height.value → ⊥) free
  -- the lower half is used each time
  pub piece : s ≡ section source.first h
  -- and the upper halves join the others
  pub rest : (w : Section → ℕ) → sum_of w r ≡ sum_of w others + sum_of w (upper_halves splits h source.first)
