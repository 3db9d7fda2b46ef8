use Rattle.std.proofs.Common.{◌≡◌, ◌∷◌, map, string_bytes, Some, None, ap, sym, ◌∙◌}
use Rattle.entsim_commands.specs.Words.{with_workers, with_trace, with_scene, number_between}
use Rattle.entsim_commands.proofs.Merged.{completed-workers, completed-trace, completed-scene, completed-unknown}
use Rattle.entsim_commands.proofs.words.options.read_options.Goals as goal

pub loop-word-preserved-then-str_eq : goal.loop-word-preserved-then-str_eq
loop-word-preserved-then-str_eq c =
    let all : map string_bytes c.loop-word.left.now ≡ string_bytes c.in-Some.word.now ∷ map string_bytes c.in-Some.rest.now = ap (map string_bytes) c.in-Some.ensures.cases.0 in
    let next : map string_bytes c.in-Some.rest.now ≡ string_bytes c.in_ok-value-in-text.value.now ∷ map string_bytes c.in_ok-value-in-text.rest.now = ap (map string_bytes) c.in_ok-value-in-text.ensures.cases.0 in
    let valued : number_between 1 64 c.as_str-in-text.result.now ≡ Some c.in_ok-workers-in-text.workers = sym c.read_number_between.ensures ∙ c.in_ok-workers-in-text.was in
    let more : with_workers c.in_ok-workers-in-text.workers c.loop-word.options ≡ Some c.in_ok-options-in-text.options = sym c.with_workers.ensures ∙ c.in_ok-options-in-text.was in
    sym (completed-workers _ _ _ _ _ _ _ (rw next at all) (sym c.as_str.ensures.value ∙ c.in-text.is) (rw c.as_str-in-text.ensures.value at valued) more) ∙ c.loop-word.invariant

pub loop-word-preserved-then-str_eq-2 : goal.loop-word-preserved-then-str_eq-2
loop-word-preserved-then-str_eq-2 c =
    let all : map string_bytes c.loop-word.left.now ≡ string_bytes c.in-Some.word.now ∷ map string_bytes c.in-Some.rest.now = ap (map string_bytes) c.in-Some.ensures.cases.0 in
    let more : with_trace c.loop-word.options ≡ Some c.in_ok-options-in-text-2.options = sym c.with_trace.ensures ∙ c.in_ok-options-in-text-2.was in
    sym (completed-trace _ _ _ _ _ all (sym c.as_str.ensures.value ∙ c.in-text-2.is) more) ∙ c.loop-word.invariant

pub loop-word-preserved : goal.loop-word-preserved
loop-word-preserved c =
    let all : map string_bytes c.loop-word.left.now ≡ string_bytes c.in-Some.word.now ∷ map string_bytes c.in-Some.rest.now = ap (map string_bytes) c.in-Some.ensures.cases.0 in
    let next : map string_bytes c.in-Some.rest.now ≡ string_bytes c.in_ok-value-in-text-3.value.now ∷ map string_bytes c.in_ok-value-in-text-3.rest.now = ap (map string_bytes) c.in_ok-value-in-text-3.ensures.cases.0 in
    let valued : number_between 1 2 c.as_str-in-text-3.result.now ≡ Some c.in_ok-scene-in-text-3.scene = sym c.read_number_between-in-text-3.ensures ∙ c.in_ok-scene-in-text-3.was in
    let more : with_scene c.in_ok-scene-in-text-3.scene c.loop-word.options ≡ Some c.in_ok-options-in-text-3.options = sym c.with_scene.ensures ∙ c.in_ok-options-in-text-3.was in
    sym (completed-scene _ _ _ _ _ _ _ (rw next at all) (sym c.as_str.ensures.value ∙ c.in-text-3.is) (rw c.as_str-in-text-3.ensures.value at valued) more) ∙ c.loop-word.invariant

pub returns-in_err-options-in-text-3 : goal.returns-in_err-options-in-text-3
returns-in_err-options-in-text-3 c =
    let all : map string_bytes c.loop-word.left.now ≡ string_bytes c.in-Some.word.now ∷ map string_bytes c.in-Some.rest.now = ap (map string_bytes) c.in-Some.ensures.cases.0 in
    let next : map string_bytes c.in-Some.rest.now ≡ string_bytes c.in_ok-value-in-text-3.value.now ∷ map string_bytes c.in_ok-value-in-text-3.rest.now = ap (map string_bytes) c.in_ok-value-in-text-3.ensures.cases.0 in
    let valued : number_between 1 2 c.as_str-in-text-3.result.now ≡ Some c.in_ok-scene-in-text-3.scene = sym c.read_number_between-in-text-3.ensures ∙ c.in_ok-scene-in-text-3.was in
    let none : with_scene c.in_ok-scene-in-text-3.scene c.loop-word.options ≡ None = sym c.with_scene.ensures ∙ c.in_err-options-in-text-3.was in
    c.from_residual-in_err-options-in-text-3.ensures ∙ sym (completed-scene _ _ _ _ _ _ _ (rw next at all) (sym c.as_str.ensures.value ∙ c.in-text-3.is) (rw c.as_str-in-text-3.ensures.value at valued) none) ∙ c.loop-word.invariant

pub returns-in_default-as_str : goal.returns-in_default-as_str
returns-in_default-as_str c =
    let all : map string_bytes c.loop-word.left.now ≡ string_bytes c.in-Some.word.now ∷ map string_bytes c.in-Some.rest.now = ap (map string_bytes) c.in-Some.ensures.cases.0 in
    sym (completed-unknown _ _ _ _ all (rw c.as_str.ensures.value at c.in_default-as_str.not-text) (rw c.as_str.ensures.value at c.in_default-as_str.not-text-2) (rw c.as_str.ensures.value at c.in_default-as_str.not-text-3)) ∙ c.loop-word.invariant
