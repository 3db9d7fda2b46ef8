-- Buffers that were prepared, the last ones first.
use Rattle.std.proofs.Common.{◌≡◌, ◌∙◌, ap, List, [], ◌∷◌, ◌++◌, map, reverse}
use Rattle.std.proofs.lemmas.List.{map-append, reverse-append}
use Rattle.structural_ops.specs.declared.buffers.Prepared.{Prepared}
use Rattle.structural_ops.specs.Buffers.{prepared_write}

pub last_first : (all rest : List Prepared) (p : Prepared) → all ≡ rest ++ p ∷ [] → reverse (map prepared_write all) ≡ prepared_write p ∷ reverse (map prepared_write rest)
last_first all rest p is =
    ap (λ ps. reverse (map prepared_write ps)) is ∙ ap reverse (map-append prepared_write rest (p ∷ [])) ∙ reverse-append (map prepared_write rest) (prepared_write p ∷ [])
