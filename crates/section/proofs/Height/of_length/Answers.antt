-- `section::Height::of_length` meets its contract. Assumes nothing.
use mathlib.Core.Path.{sym, ap}
use Rattle.section.proofs.Lengths.{no_length_of_match}
use Rattle.section.specs.Heights.{height_of}
use Rattle.section.proofs.Height.of_length.Goals as goal

pub returns-in-1 : goal.returns-in-1
unfolding height_of
returns-in-1 c = sym (ap height_of c.in-1.is)

pub returns-in-2 : goal.returns-in-2
unfolding height_of
returns-in-2 c = sym (ap height_of c.in-2.is)

pub returns-in-4 : goal.returns-in-4
unfolding height_of
returns-in-4 c = sym (ap height_of c.in-4.is)

pub returns-in-8 : goal.returns-in-8
unfolding height_of
returns-in-8 c = sym (ap height_of c.in-8.is)

pub returns-in-16 : goal.returns-in-16
unfolding height_of
returns-in-16 c = sym (ap height_of c.in-16.is)

pub returns-in-32 : goal.returns-in-32
unfolding height_of
returns-in-32 c = sym (ap height_of c.in-32.is)

pub returns-in-64 : goal.returns-in-64
unfolding height_of
returns-in-64 c = sym (ap height_of c.in-64.is)

pub returns-in-128 : goal.returns-in-128
unfolding height_of
returns-in-128 c = sym (ap height_of c.in-128.is)

pub returns-in-256 : goal.returns-in-256
unfolding height_of
returns-in-256 c = sym (ap height_of c.in-256.is)

pub returns-in-512 : goal.returns-in-512
unfolding height_of
returns-in-512 c = sym (ap height_of c.in-512.is)

pub returns-in-1024 : goal.returns-in-1024
unfolding height_of
returns-in-1024 c = sym (ap height_of c.in-1024.is)

pub returns-in-2048 : goal.returns-in-2048
unfolding height_of
returns-in-2048 c = sym (ap height_of c.in-2048.is)

pub returns-in-4096 : goal.returns-in-4096
unfolding height_of
returns-in-4096 c = sym (ap height_of c.in-4096.is)

pub returns-in-8192 : goal.returns-in-8192
unfolding height_of
returns-in-8192 c = sym (ap height_of c.in-8192.is)

pub returns-in-16384 : goal.returns-in-16384
unfolding height_of
returns-in-16384 c = sym (ap height_of c.in-16384.is)

pub returns-in-32768 : goal.returns-in-32768
unfolding height_of
returns-in-32768 c = sym (ap height_of c.in-32768.is)

pub returns-in-65536 : goal.returns-in-65536
unfolding height_of
returns-in-65536 c = sym (ap height_of c.in-65536.is)

pub returns-in-131072 : goal.returns-in-131072
unfolding height_of
returns-in-131072 c = sym (ap height_of c.in-131072.is)

pub returns-in-262144 : goal.returns-in-262144
unfolding height_of
returns-in-262144 c = sym (ap height_of c.in-262144.is)

pub returns-in-524288 : goal.returns-in-524288
unfolding height_of
returns-in-524288 c = sym (ap height_of c.in-524288.is)

pub returns-in-1048576 : goal.returns-in-1048576
unfolding height_of
returns-in-1048576 c = sym (ap height_of c.in-1048576.is)

pub returns-in_default : goal.returns-in_default
returns-in_default c = sym (no_length_of_match c.args.n c.in_default.in_default-own.rest)
