-- What is kept of a command gives the command back.
use Rattle.std.proofs.Common.{◌≡◌, ◌+◌, ◌≤◌, List, [], ◌∷◌, length, map, refl, sym, ap, ap₂, ◌∙◌, arith}
use Rattle.std.proofs.lemmas.List.{length-append, take_at, drop_at}
use Rattle.std.proofs.lemmas.List.Sums.{sum_by-cons}
use Rattle.command_record.specs.declared.command.CmdPart.{CmdPart}
use Rattle.command_record.specs.declared.command.Command.{Command}
use Rattle.command_record.specs.declared.command.Command.TheVariants.{Create, Destroy, Add, Remove, Set, SetShared, SetEnabled, Instantiate, Append, Clear}
use Rattle.command_record.specs.declared.kept.PartHead.{PartHead}
use Rattle.command_record.specs.Kept.{act_of, part_head_of, part_heads_of, values_in, values_of, count_in, parts_from, command_from}

parts_back : (parts : List CmdPart) → parts_from (map part_head_of parts) (values_in parts) ≡ parts
parts_back [] = refl
parts_back (p ∷ ps) =
    ap₂ (λ own rest. let part : CmdPart = record { ty = p.ty; values = own } in part ∷ parts_from (map part_head_of ps) rest)
    (take_at p.values (values_in ps) (length p.values) refl)
    (drop_at p.values (values_in ps) (length p.values) refl)
    ∙ ap (λ rest. p ∷ rest) (parts_back ps)

pub command_back : (c : Command) → command_from (act_of c) (part_heads_of c) (values_of c) ≡ c
command_back (Create parts) = ap Create (parts_back parts)
command_back (Destroy target) = refl
command_back (Add target part) = refl
command_back (Remove target ty) = refl
command_back (Set target part) = refl
command_back (SetShared target part) = refl
command_back (SetEnabled target ty on) = refl
command_back (Instantiate source) = refl
command_back (Append target part) = refl
command_back (Clear target ty) = refl

count_parts : (parts : List CmdPart) → count_in (map part_head_of parts) ≡ length (values_in parts)
count_parts [] = refl
count_parts (p ∷ ps) =
    sum_by-cons (λ (h : PartHead). h.count) (part_head_of p) (map part_head_of ps)
    ∙ ap (λ n. length p.values + n) (count_parts ps)
    ∙ sym (length-append p.values (values_in ps))

-- there are as many values as the part heads count
pub count_kept : (c : Command) → count_in (part_heads_of c) ≤ length (values_of c)
count_kept (Create parts) = omega (arith, count_parts parts)
count_kept (Destroy target) = omega arith
count_kept (Add target part) = omega arith
count_kept (Remove target ty) = omega arith
count_kept (Set target part) = omega arith
count_kept (SetShared target part) = omega arith
count_kept (SetEnabled target ty on) = omega arith
count_kept (Instantiate source) = omega arith
count_kept (Append target part) = omega arith
count_kept (Clear target ty) = omega arith
