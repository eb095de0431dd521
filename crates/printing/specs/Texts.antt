-- How much room the text of a catalogue needs, and the blocks that its first line counts. Definitions only.
use Rattle.std.specs.Prelude.{ℕ}
use Rattle.layout.specs.Layout.{file_blocks}
use Rattle.table.specs.Tables.{file_of}
use Rattle.table.specs.declared.Entry.{Entry}

-- the bytes of a buffer that surely hold the text of a catalogue
abbrev pub text_room : ℕ
text_room = 32768

-- and of one that surely holds the text of a refusal
abbrev pub refusal_room : ℕ
refusal_room = 19

-- the blocks of a file
abbrev pub entry_blocks : Entry → ℕ
entry_blocks e = file_blocks (file_of e)
