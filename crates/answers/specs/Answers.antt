-- What the code's answers stand for: the number of each refusal, 12 and 13 by document 02, W1, 14 by W4, the others by
-- document 01; the answered number, and "fits already". Definitions only.
use Rattle.std.specs.Prelude.{ℕ, Result, Ok, Err}
use Rattle.manager.specs.Conditions.{Reply, answered, fits_already, refused}
use Rattle.answers.specs.declared.Answered.{Answered}
use Rattle.answers.specs.declared.Answered.TheVariants as Answered·
use Rattle.answers.specs.declared.Refusal.{Refusal}
use Rattle.answers.specs.declared.Refusal.TheVariants as Refusal·

abbrev pub number_of : Refusal → ℕ
number_of Refusal·.CatalogueLength = 1
number_of Refusal·.NoDisk = 2
number_of Refusal·.NotSound = 3
number_of Refusal·.DiskLength = 4
number_of Refusal·.IdZero = 5
number_of Refusal·.IdMissing = 6
number_of Refusal·.IdThere = 7
number_of Refusal·.BufferLength = 8
number_of Refusal·.PastEnd = 9
number_of Refusal·.FilesFull = 10
number_of Refusal·.NoSpace = 11
number_of Refusal·.LetterUnknown = 12
number_of Refusal·.LetterNotAbove = 13
number_of Refusal·.ListLength = 14

abbrev pub reply_of : Result Answered Refusal → Reply
reply_of (Ok (Answered·.Number n)) = answered n
reply_of (Ok Answered·.FitsAlready) = fits_already
reply_of (Err r) = refused (number_of r)
