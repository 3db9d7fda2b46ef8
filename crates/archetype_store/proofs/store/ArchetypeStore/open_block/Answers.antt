use Rattle.std.proofs.Common.{◌≡◌, ℕ, List, true, map, sym, ap, ◌∙◌, subst}
use Rattle.std.specs.Prelude.{MatchOption, option_map}
use Rattle.std.specs.HashMap.{get}
use Rattle.ent_types.specs.declared.value.Value.{Value}
use Rattle.world_model.specs.Part.{PartOf, part_of as seen_part}
use Rattle.archetype_store.specs.Holding.{AreIdsFor, StandAll}
use Rattle.archetype_store.specs.HomeKeys.{same_home}
use Rattle.archetype_store.specs.Homes.{first_number, homes_of}
use Rattle.archetype_store.specs.Stores.{StoreState, IsFirstWithRoom, is_full}
use Rattle.archetype_store.specs.Inside.{view_of}
use Rattle.archetype_store.proofs.Search.{answers, full-without}
use Rattle.archetype_store.proofs.store.ArchetypeStore.open_block.Goals as goal

pub returns-in-None : goal.returns-in-None
returns-in-None c =
    let s = c.self.inside in
    let parts : List (PartOf Value) = map seen_part c.args.shared.now in
    let lacks : (ids : List ℕ) → StandAll s.shared parts ids → ⊥ = subst (λ o. AreIdsFor s.shared parts (option_map (λ v. v.items) o)) c.in-None.is c.in_ok-find_ids.ensures in
    subst (λ (v : StoreState). is_full c.args.a parts v.blocks ≡ true) c.self.view_is (full-without s c.self.invariant c.has_one_each.ensures c.args.a parts lacks)

pub returns-in-Some : goal.returns-in-Some
returns-in-Some c =
    let s = c.self.inside in
    let parts : List (PartOf Value) = map seen_part c.args.shared.now in
    let ids : List ℕ = c.in-Some.ids.items in
    let stand : StandAll s.shared parts ids = subst (λ o. AreIdsFor s.shared parts (option_map (λ v. v.items) o)) c.in-Some.is c.in_ok-find_ids.ensures in
    let is : c.first_in.result ≡ first_number (homes_of s.homes.items) s.order.items (get same_home s.found (record { archetype = c.args.a; ids = ids })) =
    c.first_in.ensures
    ∙ ap (λ hs. first_number (homes_of hs) c.deref-in-Some.result.now (get same_home s.found (record { archetype = c.a.inside.0; ids = c.from_vec.result }))) c.deref.ensures.value
    ∙ ap (λ os. first_number (homes_of s.homes.items) os (get same_home s.found (record { archetype = c.a.inside.0; ids = c.from_vec.result }))) c.deref-in-Some.ensures.value
    ∙ ap (λ k. first_number (homes_of s.homes.items) s.order.items (get same_home s.found (record { archetype = k; ids = c.from_vec.result }))) c.a.view_is
    ∙ ap (λ is. first_number (homes_of s.homes.items) s.order.items (get same_home s.found (record { archetype = c.args.a; ids = is }))) c.from_vec.ensures in
    subst (λ (v : StoreState). MatchOption c.first_in.result (is_full c.args.a parts v.blocks ≡ true) (λ n. IsFirstWithRoom c.args.a parts n v.blocks)) c.self.view_is
    (subst (λ r. MatchOption r (is_full c.args.a parts (view_of s).blocks ≡ true) (λ n. IsFirstWithRoom c.args.a parts n (view_of s).blocks)) (sym is) (answers s c.self.invariant c.has_one_each.ensures c.args.a parts ids stand))
