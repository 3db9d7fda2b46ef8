use Rattle.std.proofs.Common.{◌≢◌, get_or, arith}
use Rattle.std.proofs.lemmas.Grind.{common_steps}
use Rattle.entsim_commands.proofs.Numerals.{number_of-parsed}
use Rattle.entsim_commands.proofs.words.number.read_number.Goals as goal

pub returns : goal.returns
returns c =
    let no_zero : get_or c.args.word.now 0 0 ≢ 48 = grind (arith, common_steps) in
    let no_plus : get_or c.args.word.now 0 0 ≢ 43 = grind (arith, common_steps) in
    let same = number_of-parsed c.args.word.now c.parse.result no_zero no_plus c.parse.ensures.value.0 in
    cc (c.ok.ensures.value, same)
