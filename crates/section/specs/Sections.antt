-- Sections of a disk in plain arithmetic: document 01, "Disk, sections, pieces". Definitions only.
-- A section of height h is the 2 ^ h blocks from its first block on. Definitions ending in `First` are on block
-- numbers.
use Rattle.std.specs.Prelude.{◌≡◌, ◌⊎◌, Bool, cond, true, ◌&&◌, ℕ, suc, ◌+◌, ◌-◌, ◌*◌, ◌/◌, ◌%◌, ◌^◌, ◌<◌, ◌≤◌, eqb}
use Rattle.std.specs.Prelude.{ltb, leb}
use Rattle.section.specs.Heights.{NoHigher}
use Rattle.section.specs.Limits.{greatest_disk}
use Rattle.section.specs.declared.Section.{Section}

-- ---- blocks in a row

-- the block x is one of the n blocks from a on
abbrev pub Among : ℕ → ℕ → ℕ → Type 0
Among a n x = (a ≤ x) × (x < a + n)

-- the n blocks from a on are among the m from b on
abbrev pub Within : ℕ → ℕ → ℕ → ℕ → Type 0
Within a n b m = (b ≤ a) × (a + n ≤ b + m)

-- the n blocks from a on and the m from b on have no block in common
abbrev pub Apart : ℕ → ℕ → ℕ → ℕ → Type 0
Apart a n b m = (a + n ≤ b) ⊎ (b + m ≤ a)

-- ---- buddies and parents

-- the bit of the length flipped: a bit 0 adds the length, a bit 1 takes it away
unfoldable pub buddy_first : ℕ → ℕ → ℕ
buddy_first h a = cond (eqb (a / 2 ^ h % 2) 0) (a + 2 ^ h) (a - 2 ^ h)

-- the first block of the section of the height above h that has the block a
unfoldable pub parent_first : ℕ → ℕ → ℕ
parent_first h a = a / 2 ^ suc h * 2 ^ suc h

-- ---- sections

-- the section of height h from the block a on
abbrev pub section : ℕ → ℕ → Section
section a h = record { first = a; height = record { value = h } }

abbrev pub length_of : Section → ℕ
length_of s = 2 ^ s.height.value

-- the block after the last
abbrev pub end_of : Section → ℕ
end_of s = s.first + length_of s

abbrev pub buddy_of : Section → Section
buddy_of s = section (buddy_first s.height.value s.first) s.height.value

abbrev pub parent_of : Section → Section
parent_of s = section (parent_first s.height.value s.first) (suc s.height.value)

unfoldable pub is_aligned : Section → Bool
is_aligned s = eqb (s.first % length_of s) 0

-- a section of a disk of c blocks
unfoldable pub is_on_disk : ℕ → Section → Bool
is_on_disk c s = is_aligned s && leb (end_of s) c

unfoldable pub has_buddy : ℕ → Section → Bool
has_buddy c s = is_on_disk c (buddy_of s)

unfoldable pub shares_block : Section → Section → Bool
shares_block s t = ltb s.first (end_of t) && ltb t.first (end_of s)

unfoldable pub is_inside : Section → Section → Bool
is_inside s t = leb t.first s.first && leb (end_of s) (end_of t)

-- what lies inside b goes to the same distance inside u; anything else stays
unfoldable pub moved_into : Section → Section → Section → Section
moved_into b u s = cond (is_inside s b) (section (u.first + (s.first - b.first)) s.height.value) s

-- ---- numbers that the functions serve

-- a and n are the first block and the mask of an aligned section: the mask is one less than its length
pub record Spans (s : Section) (a n : ℕ) : Type 0 where
  pub first : a ≡ s.first
  pub mask : n ≡ length_of s - 1
  pub aligned : is_aligned s ≡ true

-- a height and a first block that a section of some disk can have: ends, parents and sums of two such fit a word
abbrev pub Addressable : Section → Type 0
Addressable s = (NoHigher s.height) × (s.first < greatest_disk)
