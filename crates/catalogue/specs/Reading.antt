-- The layout that is read from the bytes of a catalogue, if they are sound. Definitions only.
-- Nobody has to believe this file: the theorem `reading_iff` says that a layout is read exactly if the bytes are
-- its encoding and it is sound.
use Rattle.std.specs.Prelude.{Bool, true, false, ◌&&◌, cond, not, List, [], ◌∷◌, ℕ, zero, suc, ◌+◌, ◌-◌, ◌*◌, ◌^◌}
use Rattle.std.specs.Prelude.{leb, ltb, eqb, length, Option, Some, None}
use Rattle.std.specs.Int.Count.{ones}
use Rattle.section.specs.declared.Height.{Height}
use Rattle.section.specs.declared.Section.{Section}
use Rattle.section.specs.Heights.{height_of}
use Rattle.section.specs.Limits.{greatest_disk, most_files}
use Rattle.section.specs.Sections.{is_on_disk, length_of, shares_block}
use Rattle.layout.specs.Lists.{sum_of, sort_by}
use Rattle.layout.specs.Layout.{File, Layout, all_pieces, block_count, by_length, file_blocks, free_blocks}
use Rattle.layout.specs.Sound.{greatest_id}
use Rattle.catalogue.specs.declared.Version.{Version}
use Rattle.catalogue.specs.Encoding.{byte_values}
use Rattle.catalogue.specs.Version.{short_field}

-- ---- tests on lists

unfoldable pub every {ℓ} : {A : Type ℓ} → (A → Bool) → List A → Bool
every p [] = true
every p (a ∷ l) = p a && every p l

-- every element passes with each one after it
unfoldable pub pairwise {ℓ} : {A : Type ℓ} → (A → A → Bool) → List A → Bool
pairwise r [] = true
pairwise r (a ∷ l) = every (r a) l && pairwise r l

-- ---- the rules of soundness, as a test

-- one pair's rules
abbrev pub sound_piece : ℕ → ℕ → Section → Bool
sound_piece k c s = is_on_disk c s && ltb s.height.value k

-- one file's rules
abbrev pub sound_file : File → Bool
sound_file f =
    leb 1 f.id
    && (leb f.id greatest_id
    && (leb 1 (file_blocks f)
    && (pairwise (λ (s t : Section). ltb (length_of t) (length_of s)) f.pieces
    && eqb (length f.pieces) (ones (file_blocks f)))))

-- the rules on the free pairs
abbrev pub sound_free : Layout → Bool
sound_free l =
    pairwise (λ (s t : Section). ltb s.first t.first) l.free
    && (pairwise (λ (s t : Section). not (eqb (length_of s) (length_of t))) l.free
    && (eqb (block_count l.free) (free_blocks l) && eqb (length l.free) (ones (free_blocks l))))

-- all rules, for heights below k; sums are tested before blocks that are shared
unfoldable pub is_sound : ℕ → Layout → Bool
is_sound k l =
    leb 1 l.blocks
    && (leb l.blocks (2 ^ (k - 1))
    && (leb (length l.files) most_files
    && (pairwise (λ (f g : File). ltb f.id g.id) l.files
    && (every sound_file l.files
    && (leb (sum_of file_blocks l.files) l.blocks
    && (sound_free l
    && (every (sound_piece k l.blocks) (all_pieces l)
    && pairwise (λ (s t : Section). not (shares_block s t)) (all_pieces l))))))))

-- ---- reading from the front

-- what was read and the bytes that are left, or bytes that cannot be read
pub data Read (A : Type 0) : Type 0 where
  got : A → List ℕ → Read A
  bad : Read A

abbrev pub then : {A B : Type 0} → Read A → (A → List ℕ → Read B) → Read B
then (got a r) k = k a r
then bad k = bad

-- a number in w bytes, after the bytes whose value is acc
unfoldable pub read_from : ℕ → ℕ → List ℕ → Read ℕ
read_from zero acc bs = got acc bs
read_from (suc w) acc [] = bad
read_from (suc w) acc (b ∷ bs) = read_from w (acc * byte_values + b) bs

abbrev pub read_field : ℕ → List ℕ → Read ℕ
read_field w bs = read_from w 0 bs

-- a section, if its length is one, and its first block can be one of a disk
abbrev pub section_read : ℕ → Option Height → List ℕ → Read Section
section_read x (Some h) r = cond (ltb x greatest_disk) (got (record { first = x; height = h }) r) bad
section_read x None r = bad

-- a pair
unfoldable pub read_pair : ℕ → List ℕ → Read Section
read_pair w bs = then (read_field w bs) λ x r. then (read_field w r) λ n r'. section_read x (height_of n) r'

-- c pairs
unfoldable pub read_pairs : ℕ → ℕ → List ℕ → Read (List Section)
read_pairs zero w bs = got [] bs
read_pairs (suc c) w bs = then (read_pair w bs) λ s r. then (read_pairs c w r) λ l r'. got (s ∷ l) r'

-- a file of id i and n blocks, if its pairs stand by rising first block and sum to n; in page order
unfoldable pub file_read : ℕ → ℕ → List Section → List ℕ → Read File
file_read i n l r =
    elim (eqb (block_count l) n && pairwise (λ (s t : Section). ltb s.first t.first) l) as (λ _. Read File) [
      | true ↦ got (record { id = i; pieces = sort_by by_length l }) r
      | false ↦ bad
    ]

-- an entry: the number of its pairs follows from n
unfoldable pub read_entry : ℕ → List ℕ → Read File
read_entry w bs =
    then (read_field short_field bs) λ i r.
    then (read_field w r) λ n r'.
    then (read_pairs (ones n) w r') λ l r''.
    file_read i n l r''

-- c entries
unfoldable pub read_entries : ℕ → ℕ → List ℕ → Read (List File)
read_entries zero w bs = got [] bs
read_entries (suc c) w bs = then (read_entry w bs) λ f r. then (read_entries c w r) λ l r'. got (f ∷ l) r'

-- C and the number of files
pub record Header : Type 0 where
  pub blocks : ℕ
  pub count : ℕ

-- the header, if it has the version's number and at most 64 files
unfoldable pub read_header : Version → List ℕ → Read Header
read_header v bs =
    then (read_field short_field bs) λ number r.
    then (read_field v.width r) λ c r'.
    then (read_field short_field r') λ k r''.
    elim (eqb number v.number && leb k most_files) as (λ _. Read Header) [
      | true ↦ got (record { blocks = c; count = k }) r''
      | false ↦ bad
    ]

-- a whole layout: the number of the free pairs follows from f
unfoldable pub read_layout : Version → List ℕ → Read Layout
read_layout v bs =
    then (read_header v bs) λ h r.
    then (read_entries h.count v.width r) λ fs r'.
    then (read_pairs (ones (h.blocks - sum_of file_blocks fs)) v.width r') λ free r''.
    got (record { blocks = h.blocks; files = fs; free = free }) r''

-- ---- the answer

pub data Reading : Type 0 where
  sound : Layout → Reading
  unsound : Reading

-- only zero bytes may be left, and the layout has to be sound
unfoldable pub judged : Version → Read Layout → Reading
judged v (got l r) =
    elim (every (λ b. eqb b 0) r && is_sound v.heights l) as (λ _. Reading) [ true ↦ sound l | false ↦ unsound ]
judged v bad = unsound

unfoldable pub read_catalogue : Version → List ℕ → Reading
read_catalogue v bs = judged v (read_layout v bs)
