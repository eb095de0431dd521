-- The arguments of a call that the table of refusals names. Definitions only.
use Rattle.std.specs.Prelude.{List, [], ◌⊎◌, ◌≡◌, ◌%◌, ℕ, length}
use Rattle.manager.specs.Call.{Call, add, breaks, check, free, read, remove, replace, which}
use Rattle.section.specs.Limits.{block_size}

-- the id
abbrev pub id_of : Call → ℕ
id_of (add i bs) = i
id_of (remove i) = i
id_of (replace i bs) = i
id_of (read i p o) = i
id_of (breaks i) = i
id_of (which n o) = 0
id_of free = 0
id_of check = 0

-- the content or the output, as bytes
abbrev pub buffer_of : Call → List ℕ
buffer_of (add i bs) = bs
buffer_of (remove i) = []
buffer_of (replace i bs) = bs
buffer_of (read i p o) = o
buffer_of (breaks i) = []
buffer_of (which n o) = []
buffer_of free = []
buffer_of check = []

-- a buffer of 0 bytes, or of no multiple of a block
abbrev pub Unpaged : List ℕ → Type 0
Unpaged bs = (length bs ≡ 0) ⊎ (length bs % block_size ≡ 0 → ⊥)

-- the first page
abbrev pub first_page_of : Call → ℕ
first_page_of (add i bs) = 0
first_page_of (remove i) = 0
first_page_of (replace i bs) = 0
first_page_of (read i p o) = p
first_page_of (breaks i) = 0
first_page_of (which n o) = 0
first_page_of free = 0
first_page_of check = 0

-- the list of numbers that a call fills
abbrev pub places_of : Call → List ℕ
places_of (add i bs) = []
places_of (remove i) = []
places_of (replace i bs) = []
places_of (read i p o) = []
places_of (breaks i) = []
places_of (which n o) = o
places_of free = []
places_of check = []

-- the call names no whole number of pages, or none: by its buffer, and `which` by n = 0
abbrev pub NoPages : Call → Type 0
NoPages (add i bs) = Unpaged bs
NoPages (remove i) = Unpaged []
NoPages (replace i bs) = Unpaged bs
NoPages (read i p o) = Unpaged o
NoPages (breaks i) = Unpaged []
NoPages (which n o) = n ≡ 0
NoPages free = Unpaged []
NoPages check = Unpaged []
