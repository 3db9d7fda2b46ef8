use Rattle.std.proofs.Common.{◌≡◌, ℕ, ◌+◌, length, refl, arith}
use Rattle.std.proofs.lemmas.List.{length-take}
use Rattle.ent_io.proofs.Fronts.{all_read, front_grows, length_grown}
use Rattle.ent_io.proofs.reading.read_more.Goals as goal

pub returns-then-taken-eq0-clause-answer : goal.returns-then-taken-eq0-clause-answer
returns-then-taken-eq0-clause-answer g c = (refl, all_read _ _ c.read.new.buf c.len-2.result c.in-Ok.taken c.requires.front (omega arith) c.if-taken-eq0.true (omega (arith, length-take {A = ℕ})) c.in-Ok.ensures.answer)

pub returns-clause-answer : goal.returns-clause-answer
returns-clause-answer g c =
    let is = c.in_ok-extend_from_slice.ensures.items in
    let long : length c.extend_from_slice.new.self.items ≡ length c.args.bytes.now.items + c.in-Ok.taken = length_grown _ c.read.new.buf _ c.in-Ok.taken c.in-Ok.ensures.within is in
    (omega arith, omega arith, front_grows _ _ c.read.new.buf _ c.len-2.result c.in-Ok.taken c.requires.front (omega arith) c.in-Ok.ensures.within c.in-Ok.ensures.answer is)
