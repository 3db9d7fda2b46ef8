use Rattle.std.proofs.Common.{◌/◌, ◌^◌, ◌<◌, sym, ◌∙◌, arith}
use Rattle.enable_bits.specs.Bits.{bit_on}
use Rattle.enable_bits.proofs.MaskLemmas.{has-places_where, has_not, places_where-IsMask, first_from_is, first_from_none}
use Rattle.enable_bits.proofs.Numbers.{bit_on-none, next_digit_on, next_digit_within, next_digit_least}
use Rattle.enable_bits.proofs.mask.Mask.next_from.Goals as goal

pub overflow_add-result : goal.overflow_add-result
overflow_add-result c =
    let a = c.self.inside.bits in
    let place = c.args.place in
    let some : 0 < a / 2 ^ place = omega (arith, c.shifted-rest.ensures, c.if-rest-eq0.false) in
    let within = next_digit_within a place c.self.invariant some in
    rw c.shifted-rest.ensures (omega (arith, within))

pub returns-then-rest-eq0-clause-value : goal.returns-then-rest-eq0-clause-value
returns-then-rest-eq0-clause-value c =
    let a = c.self.inside.bits in
    let place = c.args.place in
    rw (← c.self.view_is) (sym (first_from_none (bit_on a) place (λ other past. bit_on-none a place other (sym c.shifted-rest.ensures ∙ c.if-rest-eq0.true) past)))

pub returns-then-rest-eq0-clause-is_mask : goal.returns-then-rest-eq0-clause-is_mask
returns-then-rest-eq0-clause-is_mask c = rw (← c.self.view_is) (places_where-IsMask (bit_on c.self.inside.bits))

pub returns-clause-value : goal.returns-clause-value
returns-clause-value c =
    let a = c.self.inside.bits in
    let place = c.args.place in
    let some : 0 < a / 2 ^ place = omega (arith, c.if-rest-eq0.false) in
    rw (← c.self.view_is, c.shifted-rest.ensures)
    (sym (first_from_is (bit_on a) place _ (next_digit_within a place c.self.invariant some) (omega arith) (next_digit_on a place c.self.invariant some) (next_digit_least a place c.self.invariant some)))

pub returns-clause-bound : goal.returns-clause-bound
returns-clause-bound c =
    let a = c.self.inside.bits in
    let place = c.args.place in
    let some : 0 < a / 2 ^ place = omega (arith, c.if-rest-eq0.false) in
    rw c.shifted-rest.ensures (next_digit_within a place c.self.invariant some)

pub returns-clause-is_mask : goal.returns-clause-is_mask
returns-clause-is_mask c = rw (← c.self.view_is) (places_where-IsMask (bit_on c.self.inside.bits))

pub returns-then-rest-eq0-clause-least : goal.returns-then-rest-eq0-clause-least
returns-then-rest-eq0-clause-least c =
    let a = c.self.inside.bits in
    let place = c.args.place in
    rw (← c.self.view_is) (λ other past. has_not (bit_on a) other (bit_on-none a place other (sym c.shifted-rest.ensures ∙ c.if-rest-eq0.true) past))

pub returns-clause-least : goal.returns-clause-least
returns-clause-least c =
    let a = c.self.inside.bits in
    let place = c.args.place in
    let some : 0 < a / 2 ^ place = omega (arith, c.if-rest-eq0.false) in
    let within = next_digit_within a place c.self.invariant some in
    rw (← c.self.view_is, c.shifted-rest.ensures) (record {
      past = omega arith;
      there = has-places_where (bit_on a) _ within ∙ next_digit_on a place c.self.invariant some;
      least = λ other past before. has_not (bit_on a) other (next_digit_least a place c.self.invariant some other past before);
    })
