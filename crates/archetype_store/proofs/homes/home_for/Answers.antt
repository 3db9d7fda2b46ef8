use Rattle.std.proofs.Common.{◌≡◌, ◌<◌, List, Some, length, sym, ap, ◌∙◌, arith}
use Rattle.std.specs.HashMap.{get}
use Rattle.std.proofs.lemmas.List.{get_or-map, length-map}
use Rattle.archetype_store.specs.declared.homes.Home.{Home}
use Rattle.archetype_store.specs.HomeKeys.{same_home}
use Rattle.archetype_store.specs.Homes.{HomeState, home_at, home_state, homes_of, no_home}
use Rattle.archetype_store.proofs.Lodged.{home-for, reserved}
use Rattle.archetype_store.proofs.homes.home_for.Goals as goal

pub reserve_block-requires : goal.reserve_block-requires
reserve_block-requires c =
    let old : List Home = c.args.homes.now.items in
    let found : get same_home c.args.found.now c.in_ok-key.key ≡ Some c.in-Some.home = sym c.get.ensures.value ∙ sym c.copied.ensures ∙ c.in-Some.is in
    let below : c.in-Some.home < length old = omega (arith, c.requires.known c.in_ok-key.key c.in-Some.home found, length-map old home_state) in
    let seen : home_at (homes_of old) c.in-Some.home ≡ home_state c.index_mut.result.now =
    get_or-map home_state old c.in-Some.home c.index_mut.result.now no_home below ∙ ap home_state (sym c.index_mut.ensures.value) in
    omega (arith, c.requires.few c.in-Some.home, ap (λ (x : HomeState). x.full) seen)

pub returns-in_err-reserve_block-in-Some-clause-keeps : goal.returns-in_err-reserve_block-in-Some-clause-keeps
returns-in_err-reserve_block-in-Some-clause-keeps c slots order are =
    let old : List Home = c.args.homes.now.items in
    let found : get same_home c.args.found.now c.in_ok-key.key ≡ Some c.in-Some.home = sym c.get.ensures.value ∙ sym c.copied.ensures ∙ c.in-Some.is in
    let below : c.in-Some.home < length old = omega (arith, c.requires.known c.in_ok-key.key c.in-Some.home found, length-map old home_state) in
    reserved old (get same_home c.args.found.now) slots order are c.in-Some.home c.index_mut.result.now c.reserve_block.new.home below c.index_mut.ensures.value
    c.reserve_block.ensures.ranks c.reserve_block.ensures.full c.reserve_block.ensures.capacity

pub returns-in_ok-reserve_block-in-Some-clause-keeps : goal.returns-in_ok-reserve_block-in-Some-clause-keeps
returns-in_ok-reserve_block-in-Some-clause-keeps c slots order are =
    let old : List Home = c.args.homes.now.items in
    let found : get same_home c.args.found.now c.in_ok-key.key ≡ Some c.in-Some.home = sym c.get.ensures.value ∙ sym c.copied.ensures ∙ c.in-Some.is in
    let below : c.in-Some.home < length old = omega (arith, c.requires.known c.in_ok-key.key c.in-Some.home found, length-map old home_state) in
    reserved old (get same_home c.args.found.now) slots order are c.in-Some.home c.index_mut.result.now c.reserve_block.new.home below c.index_mut.ensures.value
    c.reserve_block.ensures.ranks c.reserve_block.ensures.full c.reserve_block.ensures.capacity

pub returns-in_ok-reserve_block-in-Some-clause-ok : goal.returns-in_ok-reserve_block-in-Some-clause-ok
returns-in_ok-reserve_block-in-Some-clause-ok c =
    let old : List Home = c.args.homes.now.items in
    let found : get same_home c.args.found.now c.in_ok-key.key ≡ Some c.in-Some.home = sym c.get.ensures.value ∙ sym c.copied.ensures ∙ c.in-Some.is in
    let below : c.in-Some.home < length old = omega (arith, c.requires.known c.in_ok-key.key c.in-Some.home found, length-map old home_state) in
    home-for old (get same_home c.args.found.now) _ c.in-Some.home c.reserve_block.new.home below (ap (get same_home c.args.found.now) (sym c.in_ok-key.ensures) ∙ found) c.in_ok-reserve_block-in-Some.ensures.ok
