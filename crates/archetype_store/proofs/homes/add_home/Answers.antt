use Rattle.std.proofs.Common.{◌≡◌, cond, ◌++◌, ◌∷◌, [], List, Some, length, refl, sym, ap, ◌∙◌, subst, arith}
use Rattle.std.specs.HashMap.{get}
use Rattle.std.proofs.lemmas.List.{length-map, map-append}
use Rattle.archetype_store.specs.declared.homes.Home.{Home}
use Rattle.archetype_store.specs.HomeKeys.{same_home}
use Rattle.archetype_store.specs.Homes.{AreHomes, home_state, homes_of}
use Rattle.archetype_store.proofs.Lodged.{grown}
use Rattle.archetype_store.proofs.homes.add_home.Goals as goal

pub returns-clause-keeps : goal.returns-clause-keeps
returns-clause-keeps c slots order are =
    let old : List Home = c.args.homes.now.items in
    let home : Home = record { ranks = c.in_ok-ranks.ranks; full = 0 } in
    let pushed : c.push_reserved.new.self.items ≡ old ++ home ∷ [] = c.push_reserved.ensures.items ∙ ap (λ (hs : List Home). hs ++ home ∷ []) c.in_ok-reserve.ensures.items in
    let count : c.len-home.result ≡ length (homes_of old) = omega (arith, c.len-home.ensures, length-map old home_state, c.args.homes.now.ok.0) in
    subst (λ hs. AreHomes (homes_of hs) (get same_home c.insert.new.self) slots order) (sym pushed)
    (subst (λ hs. AreHomes hs (get same_home c.insert.new.self) slots order) (sym (map-append home_state old (home ∷ [])))
    (grown (homes_of old) (get same_home c.args.found.now) slots order are c.args.key c.requires.new (home_state home) c.in_ok-ranks.ensures.items refl (get same_home c.insert.new.self)
    (λ k. c.in_ok-insert.ensures.updates.0 k ∙ ap (λ n. cond (same_home c.args.key k) (Some n) (get same_home c.args.found.now k)) count)))
