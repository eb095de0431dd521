-- Which two free sections a merge takes: two that are buddies, else the two lowest. Definitions only.
use Rattle.std.specs.Prelude.{Bool, false, true, List, ◌∷◌, ◌≡◌, ◌+◌, ◌<◌, ◌≤◌, ℕ}
use Rattle.section.specs.Sections.{buddy_of}
use Rattle.section.specs.declared.Section.{Section}
use Rattle.layout.specs.Covering.{Rising}
use Rattle.layout.specs.Layout.{OnDisk}
use Rattle.layout.specs.Lists.{Each, Pairwise, indicator, sum_of}
use Rattle.layout.specs.Removing.{MergePair, fewer, has_free_buddy, is_buddy_above, pair}

-- s is the first in l that passes the test, and r the others
pub data Takes (p : Section → Bool) : List Section → Section → List Section → Type 0 where
  here : {a : Section} {l : List Section} → p a ≡ true → Takes p (a ∷ l) a l
  there : {a s : Section} {l r : List Section} → p a ≡ false → Takes p l s r → Takes p (a ∷ l) s (a ∷ r)

-- u is the buddy of l, and above it
pub record BuddyAbove (l u : Section) : Type 0 where
  pub height : u.height.value ≡ l.height.value
  pub first : u.first ≡ (buddy_of l).first
  pub above : l.first < u.first

-- l and u, both of height h, are taken from free one after the other and leave r
pub record Buddies (h : ℕ) (free : List Section) (l u : Section) (r : List Section) : Type 0 where
  pub low : l.height.value ≡ h
  pub buddy : BuddyAbove l u
  pub between : List Section
  pub lower : Takes (has_free_buddy h free) free l between
  pub upper : Takes (is_buddy_above l) between u r

-- no section of height h has its buddy above it among them
abbrev pub NoBuddies : ℕ → List Section → Type 0
NoBuddies h free =
    Each (λ (l : Section). l.height.value ≡ h → Each (λ (u : Section). BuddyAbove l u → ⊥) free) free

-- what is taken as buddies, or none of height h are
abbrev pub BuddiesOf : ℕ → List Section → MergePair → Type 0
BuddiesOf h free (pair l u r) = Buddies h free l u r
BuddiesOf h free fewer = NoBuddies h free

-- how many of the sections of height h have their buddy above them among them
abbrev pub buddy_pair_count : ℕ → List Section → ℕ
buddy_pair_count h free = sum_of (λ (s : Section). indicator (has_free_buddy h free s)) free

-- the two that a merge at h takes
pub record Mergeable (h : ℕ) (free : List Section) (l u : Section) (r : List Section) : Type 0 where
  pub low : l.height.value ≡ h
  pub high : u.height.value ≡ h
  pub order : l.first ≤ u.first
  pub rising : Rising r
  -- free is l, u and r, in some order
  pub sum : (w : Section → ℕ) → sum_of w free ≡ w l + (w u + sum_of w r)
  pub each : (c : ℕ) → Each (OnDisk c) free → OnDisk c l × OnDisk c u × Each (OnDisk c) r

-- by rising first block, no two at one
abbrev pub RisingStrictly : List Section → Type 0
RisingStrictly l = Pairwise (λ (s t : Section). s.first < t.first) l

-- no two of height h are buddies
abbrev pub NoTwoBuddies : ℕ → List Section → Type 0
NoTwoBuddies h free =
    Each (λ (l : Section). Each (λ (u : Section). l.height.value ≡ h → u.height.value ≡ h
    → (buddy_of l).first ≡ u.first → ⊥) free) free

-- L and U are of height h, L is below U, and every other of height h begins above U
pub record AreLowest (h : ℕ) (l u : Section) (r : List Section) : Type 0 where
  pub low : l.height.value ≡ h
  pub high : u.height.value ≡ h
  pub order : l.first < u.first
  pub above : Each (λ (s : Section). s.height.value ≡ h → u.first < s.first) r
