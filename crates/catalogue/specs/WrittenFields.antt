-- A catalogue written field by field, for the tables of sound and unsound ones: none of the definitions that write or
-- read a catalogue is used. Definitions only.
use Rattle.std.specs.Prelude.{List, [], ◌++◌, ◌∷◌, ◌%◌, ◌-◌, ◌/◌, suc, zero, ℕ, length, replicate}

-- a field of two bytes in both versions, or one for a number of blocks
pub data Field : Type 0 where
  short : ℕ → Field
  wide : ℕ → Field

-- two bytes, and four
abbrev two : ℕ → List ℕ
two x = x / 256 ∷ x % 256 ∷ []

abbrev four : ℕ → List ℕ
four x = x / 16777216 ∷ x / 65536 % 256 ∷ x / 256 % 256 ∷ x % 256 ∷ []

-- how a version is written: the number in the header, a field for a number of blocks, and the bytes of the whole
pub record Form : Type 0 where
  pub number : ℕ
  pub blocks_field : ℕ → List ℕ
  pub bytes : ℕ

-- the small catalogue with a number in its header, and the large one
abbrev pub small_numbered : ℕ → Form
small_numbered n = record { number = n; blocks_field = two; bytes = 4096 }

abbrev pub large_numbered : ℕ → Form
large_numbered n = record { number = n; blocks_field = four; bytes = 16384 }

abbrev pub small : Form
small = small_numbered 1

abbrev pub large : Form
large = large_numbered 2

abbrev field_bytes : Form → Field → List ℕ
field_bytes m (short x) = two x
field_bytes m (wide x) = m.blocks_field x

abbrev fields_bytes : Form → List Field → List ℕ
fields_bytes m [] = []
fields_bytes m (x ∷ l) = field_bytes m x ++ fields_bytes m l

-- the number, the fields, zero bytes, and what the last bytes are
abbrev pub written_to : Form → List Field → List ℕ → List ℕ
written_to m l e =
    let bs = two m.number ++ fields_bytes m l in bs ++ (replicate (m.bytes - length bs - length e) 0 ++ e)

abbrev pub written : Form → List Field → List ℕ
written m l = written_to m l []

-- ---- rows: what follows the number

-- pairs of first block and length
abbrev pub pairs : List (ℕ × ℕ) → List Field
pairs [] = []
pairs ((a, n) ∷ l) = wide a ∷ wide n ∷ pairs l

-- an entry: id, n and pairs
abbrev pub entry : ℕ → ℕ → List (ℕ × ℕ) → List Field
entry i n l = short i ∷ wide n ∷ pairs l

-- C, the number of files, their entries and the free pairs
abbrev pub row : ℕ → ℕ → List Field → List (ℕ × ℕ) → List Field
row c k entries free = (wide c ∷ short k ∷ entries) ++ pairs free

-- k entries of one block each, from id i on: id 1 has block 0, id 2 block 1
abbrev pub one_block_entries : ℕ → ℕ → List Field
one_block_entries zero i = []
one_block_entries (suc k) i = entry i 1 ((i - 1, 1) ∷ []) ++ one_block_entries k (suc i)

-- four blocks, all free
abbrev pub whole_disk_free : List Field
whole_disk_free = row 4 0 [] ((0, 4) ∷ [])
