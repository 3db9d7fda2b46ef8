use Rattle.std.proofs.Common.{◌≡◌, ◌∙◌, inl, refl, sym, ap, [], arith}
use Rattle.std.proofs.lemmas.List.{append-nil}
use Rattle.structural_ops.proofs.Attached.{IsAppended, few_in_all, joined_becomes, joined_consistent, kept_consistent, kept_stays, may_make, may_mark, may_name, may_note, reserved_spare, reserved_table}
use Rattle.structural_ops.proofs.attach.attach.Goals as goal

pub returns-then-is_err-clause-stays : goal.returns-then-is_err-clause-stays
returns-then-is_err-clause-stays c =
    kept_stays c.args.w.now c.args.scene c.requires.consistent c.requires.scene c.requires.same c.args.w.now.store c.reserve.new.self
    (reserved_table c.args.w.now.table c.alive_count.result c.reserve.new.self c.reserve.result c.reserve.ensures) refl
    (record { more = []; archetypes = sym (append-nil c.args.w.now.store.archetypes); registry = inl refl })

pub attach-requires-clause-few : goal.attach-requires-clause-few
attach-requires-clause-few c = few_in_all c.args.w.now c.args.scene c.requires.consistent c.requires.scene c.requires.same c.requires.fits

pub returns-in-Err-clause-consistent : goal.returns-in-Err-clause-consistent
returns-in-Err-clause-consistent c =
    kept_consistent c.args.w.now c.args.scene c.requires.consistent c.requires.scene c.requires.same c.attach.new.self c.reserve.new.self
    (reserved_table c.args.w.now.table c.alive_count.result c.reserve.new.self c.reserve.result c.reserve.ensures) c.in-Err.ensures.blocks c.in-Err.ensures.grows

pub returns-in-Err-clause-stays : goal.returns-in-Err-clause-stays
returns-in-Err-clause-stays c =
    kept_stays c.args.w.now c.args.scene c.requires.consistent c.requires.scene c.requires.same c.attach.new.self c.reserve.new.self
    (reserved_table c.args.w.now.table c.alive_count.result c.reserve.new.self c.reserve.result c.reserve.ensures) c.in-Err.ensures.blocks c.in-Err.ensures.grows

pub note_blocks-requires : goal.note_blocks-requires
note_blocks-requires c =
    let appended : IsAppended c.args.w.now c.args.scene c.attach.new.self c.in-Ok.numbers.items =
    record { was = c.requires.consistent; is = c.requires.scene; same = c.requires.same; attaches = c.in-Ok.ensures.ok } in
    may_note appended c.deref.result.now c.deref.ensures.value

pub name_rows-requires-clause-spare : goal.name_rows-requires-clause-spare
name_rows-requires-clause-spare c =
    let appended : IsAppended c.args.w.now c.args.scene c.attach.new.self c.in-Ok.numbers.items =
    record { was = c.requires.consistent; is = c.requires.scene; same = c.requires.same; attaches = c.in-Ok.ensures.ok } in
    let spare =
    reserved_spare c.args.w.now.table c.alive_count.result c.reserve.new.self c.reserve.result (sym c.is_err.ensures.value ∙ c.if-is_err.false) c.reserve.ensures in
    may_make appended c.deref.result.now c.deref.ensures.value c.note_blocks.new.table.table c.note_blocks.ensures c.reserve.new.self.spare
    (omega (arith, spare, c.alive_count.ensures.value))

pub name_rows-requires-clause-rows : goal.name_rows-requires-clause-rows
name_rows-requires-clause-rows c =
    let appended : IsAppended c.args.w.now c.args.scene c.attach.new.self c.in-Ok.numbers.items =
    record { was = c.requires.consistent; is = c.requires.scene; same = c.requires.same; attaches = c.in-Ok.ensures.ok } in
    may_name appended c.deref.result.now c.deref.ensures.value c.note_blocks.new.table.table c.note_blocks.ensures

pub mark_blocks-requires : goal.mark_blocks-requires
mark_blocks-requires c =
    let appended : IsAppended c.args.w.now c.args.scene c.attach.new.self c.in-Ok.numbers.items =
    record { was = c.requires.consistent; is = c.requires.scene; same = c.requires.same; attaches = c.in-Ok.ensures.ok } in
    let reserved = reserved_table c.args.w.now.table c.alive_count.result c.reserve.new.self c.reserve.result c.reserve.ensures in
    may_mark appended c.deref.result.now c.deref.ensures.value c.note_blocks.new.table.table c.note_blocks.ensures c.reserve.new.self.table reserved
    c.name_rows.new.store c.name_rows.ensures.store c.deref-in-Ok.result.now c.deref-in-Ok.ensures.value

pub returns-in-Ok-clause-consistent : goal.returns-in-Ok-clause-consistent
returns-in-Ok-clause-consistent c =
    let appended : IsAppended c.args.w.now c.args.scene c.attach.new.self c.in-Ok.numbers.items =
    record { was = c.requires.consistent; is = c.requires.scene; same = c.requires.same; attaches = c.in-Ok.ensures.ok } in
    let reserved = reserved_table c.args.w.now.table c.alive_count.result c.reserve.new.self c.reserve.result c.reserve.ensures in
    joined_consistent appended c.deref.result.now c.deref.ensures.value c.note_blocks.new.table.table c.note_blocks.ensures c.reserve.new.self.table reserved
    c.name_rows.new.store c.name_rows.ensures.store c.name_rows.ensures.new c.name_rows.new.table c.name_rows.ensures.table c.deref-in-Ok.result.now c.deref-in-Ok.ensures.value
    c.mark_blocks.new.store c.mark_blocks.ensures c.requires.fits

pub returns-in-Ok-clause-ok : goal.returns-in-Ok-clause-ok
returns-in-Ok-clause-ok c =
    let appended : IsAppended c.args.w.now c.args.scene c.attach.new.self c.in-Ok.numbers.items =
    record { was = c.requires.consistent; is = c.requires.scene; same = c.requires.same; attaches = c.in-Ok.ensures.ok } in
    let reserved = reserved_table c.args.w.now.table c.alive_count.result c.reserve.new.self c.reserve.result c.reserve.ensures in
    joined_becomes appended c.deref.result.now c.deref.ensures.value c.note_blocks.new.table.table c.note_blocks.ensures c.reserve.new.self.table reserved
    c.name_rows.new.store c.name_rows.ensures.store c.name_rows.ensures.new c.name_rows.new.table c.name_rows.ensures.table c.deref-in-Ok.result.now c.deref-in-Ok.ensures.value
    c.mark_blocks.new.store c.mark_blocks.ensures
