-- `catalogue::Version::of_length` meets its contract: the version that the length picks. Assumes nothing.
use mathlib.Core.Bool.{cond}
use mathlib.Core.Path.{ap, sym}
use borrow.Author.Tests.{eq-eqb, ne_eqb}
use Rattle.catalogue.specs.Version.{version1, version2, version_for}
use Rattle.catalogue.proofs.Version.of_length.Goals as goal

pub returns-then-n-eq-LARGE_CATALOGUE : goal.returns-then-n-eq-LARGE_CATALOGUE
unfolding version_for
returns-then-n-eq-LARGE_CATALOGUE c = sym (ap (λ b. cond b version2 version1) (eq-eqb _ 16384 c.if-n-eq-LARGE_CATALOGUE.true))

pub returns-else-n-eq-LARGE_CATALOGUE : goal.returns-else-n-eq-LARGE_CATALOGUE
unfolding version_for
returns-else-n-eq-LARGE_CATALOGUE c = sym (ap (λ b. cond b version2 version1) (ne_eqb _ 16384 c.if-n-eq-LARGE_CATALOGUE.false))
