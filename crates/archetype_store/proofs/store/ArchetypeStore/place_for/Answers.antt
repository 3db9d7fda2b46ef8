use Rattle.std.proofs.Common.{◌≡◌, ℕ, false, List, map, Result, Ok, Err, IfOk, refl, sym, ◌∙◌, subst, true}
use Rattle.std.proofs.lemmas.Bool.{false≢true}
use Rattle.ent_types.specs.declared.memory.Memory.{Memory}
use Rattle.ent_types.specs.declared.value.Value.{Value}
use Rattle.world_model.specs.Part.{PartOf, part_of as seen_part}
use Rattle.archetype_store.specs.Stores.{Adds, Opens, is_full, IsFirstWithRoom, new_numbered}
use Rattle.std.specs.Prelude.{MatchOption}
use Rattle.archetype_store.proofs.Found.{first-not-full, first-added, new-has-room}
use Rattle.archetype_store.proofs.store.ArchetypeStore.place_for.Goals as goal

pub returns-in-Some-clause-ok : goal.returns-in-Some-clause-ok
returns-in-Some-clause-ok c =
    let parts : List (PartOf Value) = map seen_part c.args.shared.now in
    let first : IsFirstWithRoom c.args.a parts c.in-Some.number c.args.self.now.blocks =
    subst (λ r. MatchOption r (is_full c.args.a parts c.args.self.now.blocks ≡ true) (λ n. IsFirstWithRoom c.args.a parts n c.args.self.now.blocks)) c.in-Some.is c.in_ok-number.ensures in
    let has : is_full c.args.a parts c.args.self.now.blocks ≡ false = first-not-full c.args.a parts c.in-Some.number c.args.self.now.blocks first in
    record { found = λ _. refl; added = λ full. absurd (false≢true (sym has ∙ full)); first = first }

pub returns-in-None-clause-ok : goal.returns-in-None-clause-ok
returns-in-None-clause-ok c = by c.add_block.result c.add_block.ensures.ok
  where
    parts : List (PartOf Value)
    parts = map seen_part c.args.shared.now

    full : is_full c.args.a parts c.args.self.now.blocks ≡ true
    full = subst (λ r. MatchOption r (is_full c.args.a parts c.args.self.now.blocks ≡ true) (λ n. IsFirstWithRoom c.args.a parts n c.args.self.now.blocks)) c.in-None.is c.in_ok-number.ensures

    by : (r : Result ℕ Memory) → IfOk r (Adds c.args.self.now c.add_block.new.self c.args.a parts) → IfOk r (Opens c.args.self.now c.add_block.new.self c.args.a parts)
    by (Err e) is = tt
    by (Ok n) is = record {
      found = λ some. absurd (false≢true (sym some ∙ full));
      added = λ _. is;
      first =
          subst (IsFirstWithRoom c.args.a parts n) (sym is.blocks.blocks)
          (first-added c.args.a parts (new_numbered c.args.self.now c.args.a parts n) c.args.self.now.blocks full (new-has-room c.args.self.now c.args.a parts n is.room));
    }
