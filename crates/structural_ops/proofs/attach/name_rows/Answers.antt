use Rattle.std.proofs.Common.{◌≡◌, ◌<◌, ◌≤◌, ◌∙◌, ◌∷◌, inl, inr, refl, sym, ap, ap₂, subst, List, length, map, None, Some, arith}
use Rattle.ent_types.specs.declared.entity.Entity.{Entity}
use Rattle.entity_table.specs.declared.table.Place.{Place}
use Rattle.entity_table.specs.Table.{Rebinds, Table, given_by, living, place_of, with_made}
use Rattle.world_model.specs.Members.{In}
use Rattle.archetype_store.specs.Stores.{OfBlock, StoreState, with_block_in}
use Rattle.structural_ops.specs.Attaching.{AreNew, IsNew, all_made, all_named, place_of_item, row_named}
use Rattle.structural_ops.proofs.Marked.{row_still}
use Rattle.structural_ops.proofs.attach.name_rows.Goals as goal

pub loop-place-init : goal.loop-place-init
loop-place-init c =
    let is : c.into_iter-place-iterator.result ≡ living c.args.scene.now.table = c.into_iter-place-iterator.ensures.into_iter_gives ∙ c.living-place-items.ensures in
    record {
      store = ap (λ (xs : List (Entity × Place)). all_named (map place_of_item xs) c.args.table.now.table c.args.store.now) is;
      table = ap (λ (xs : List (Entity × Place)). all_made (map place_of_item xs) c.args.table.now.table) is;
      new = λ new. subst (λ (xs : List (Entity × Place)). AreNew (map place_of_item xs) c.args.table.now.table) is new;
      spare = subst (λ (xs : List (Entity × Place)). length xs ≤ c.args.table.now.spare) (sym is) c.requires.spare;
      rows = λ p i. c.requires.rows p (subst (λ (xs : List (Entity × Place)). In p (map place_of_item xs)) is i);
    }

pub put_entity-requires : goal.put_entity-requires
put_entity-requires c =
    c.loop-place.invariant.rows c.in-Some.place (subst (λ (xs : List (Entity × Place)). In c.in-Some.place (map place_of_item xs)) (sym c.in-Some.ensures.steps) (inl refl))

pub loop-place-preserved : goal.loop-place-preserved
loop-place-preserved c =
    let p = c.in-Some.place in
    let t : Table = c.loop-place.table.table in
    let s : StoreState = c.loop-place.store in
    let rest = map place_of_item c.next.new.self in
    let left = c.in-Some.ensures.steps in
    let store : c.put_entity.new.self ≡ with_block_in p.block (row_named p.row (given_by t).entity) s =
    c.put_entity.ensures ∙ ap (λ e. with_block_in p.block (row_named p.row e) s) c.make-entity.ensures.value in
    let fresh : place_of t (given_by t).entity ≡ None = subst (λ e. place_of t e ≡ None) c.make-entity.ensures.value c.make-entity.ensures.fresh in
    let rebinds : Rebinds t (with_made t p) (given_by t).entity (Some p) =
    subst (λ u. Rebinds t u (given_by t).entity (Some p)) c.make-entity.ensures.table
    (subst (λ e. Rebinds t c.make-entity.new.self.table e (Some p)) c.make-entity.ensures.value c.make-entity.ensures.map) in
    let one : IsNew t p = record { fresh = fresh; rebinds = rebinds } in
    record {
      store = ap₂ (all_named rest) c.make-entity.ensures.table store
          ∙ ap (λ (xs : List (Entity × Place)). all_named (map place_of_item xs) t s) (sym left)
          ∙ c.loop-place.invariant.store;
      table = ap (all_made rest) c.make-entity.ensures.table
          ∙ ap (λ (xs : List (Entity × Place)). all_made (map place_of_item xs) t) (sym left)
          ∙ c.loop-place.invariant.table;
      new = λ new.
          c.loop-place.invariant.new
          (subst (λ (xs : List (Entity × Place)). AreNew (map place_of_item xs) t) (sym left) (one, subst (AreNew rest) c.make-entity.ensures.table new));
      spare = omega (arith, c.make-entity.ensures.spare, c.loop-place.invariant.spare, ap (λ (xs : List (Entity × Place)). length xs) left);
      rows = λ q i.
          subst (λ (u : StoreState). OfBlock q.block (λ b. q.row < length b.rows) u.blocks) (sym store)
          (row_still p.block p.row (given_by t).entity q s.blocks
          (c.loop-place.invariant.rows q (subst (λ (xs : List (Entity × Place)). In q (map place_of_item xs)) (sym left) (inr i))));
    }
