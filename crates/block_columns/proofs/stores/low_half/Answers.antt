use Rattle.std.proofs.Common.{rules, refl}
use Rattle.std.specs.Int.{int_wrap, w32, w64}
use Rattle.std.specs.Prelude.{FitsSigned}
use Rattle.std.proofs.lemmas.Int.{to_z-of_z}
use Rattle.block_columns.proofs.stores.low_half.Goals as goal

pub returns : goal.returns
unfolding int_wrap
returns c =
    let wide : FitsSigned w64 c.rem_euclid.result = search rules in
    let narrow : FitsSigned w32 c.cast_signed.result = search rules in
    rw
    (to_z-of_z w32 c.cast_signed.result narrow, c.cast_signed.ensures, to_z-of_z w64 c.rem_euclid.result wide, c.rem_euclid.ensures.value, to_z-of_z w64 c.args.value c.ranges.value)
    refl
