-- The options so far, joined with those that are still to be read.
use Rattle.std.proofs.Common.{◌≡◌, ℕ, Bool, true, false, ◌&&◌, ◌||◌, if◌then◌else◌, List, [], ◌∷◌, Option, Some, None, is_some, option_and_then, bytes_eq, codes, ◌≢◌, refl, sym}
use Rattle.std.specs.Option.{option_or}
use Rattle.std.proofs.lemmas.Slice.Eq.{bytes_eq-Decides}
use Rattle.entsim_commands.specs.declared.words.options.Options.{Options}
use Rattle.entsim_commands.specs.Words.{no_options, with_workers, with_trace, with_scene, number_between, options_of}

-- both have the option
abbrev pub both_name : Options → Options → Bool
both_name a b = (is_some a.workers && is_some b.workers) || ((a.trace && b.trace) || (is_some a.scene && is_some b.scene))

-- the options of both, unless one is in both
abbrev pub merged : Options → Options → Option Options
merged a b =
    if both_name a b then None
    else Some (record {
      workers = option_or a.workers b.workers;
      trace = a.trace || b.trace;
      scene = option_or a.scene b.scene;
    })

-- the options `so_far`, and then those of the words
abbrev pub completed : Options → List (List ℕ) → Option Options
completed so_far words = option_and_then (merged so_far) (options_of words)

pub completed-no_options : (words : List (List ℕ)) → completed no_options words ≡ options_of words
completed-no_options words = plain (options_of words)
  where
    plain : (o : Option Options) → option_and_then (merged no_options) o ≡ o
    plain None = refl
    plain (Some o) = refl

-- no word is left
pub completed-empty : (o : Options) → completed o [] ≡ Some o
completed-empty o = by_fields o.workers o.trace o.scene
  where
    by_fields : (w : Option ℕ) (t : Bool) (s : Option ℕ) → merged (record { workers = w; trace = t; scene = s }) no_options ≡ Some (record { workers = w; trace = t; scene = s })
    by_fields None false None = refl
    by_fields None false (Some s) = refl
    by_fields None true None = refl
    by_fields None true (Some s) = refl
    by_fields (Some w) false None = refl
    by_fields (Some w) false (Some s) = refl
    by_fields (Some w) true None = refl
    by_fields (Some w) true (Some s) = refl

-- an option of both stands in the way, whatever else they have
trace_twice : (a c : Bool) (o : Option Options) → (if a || (true || c) then None else o) ≡ None
trace_twice true c o = refl
trace_twice false c o = refl

scene_twice : (a b : Bool) (o : Option Options) → (if a || (b || true) then None else o) ≡ None
scene_twice true b o = refl
scene_twice false true o = refl
scene_twice false false o = refl

-- an option may join those so far or those that are still to be read

pub merged-with_workers : (n : ℕ) (o : Options) (x : Option Options) → option_and_then (merged o) (option_and_then (with_workers n) x) ≡ option_and_then (λ p. option_and_then (merged p) x) (with_workers n o)
merged-with_workers n o None = none o.workers
  where
    none : (w : Option ℕ) → None ≡ option_and_then {T = Options} {U = Options} (λ p. None) (with_workers n (record o { workers = w }))
    none None = refl
    none (Some w) = refl
merged-with_workers n o (Some x) = some o.workers x.workers
  where
    some : (w v : Option ℕ) → option_and_then (merged (record o { workers = w })) (with_workers n (record x { workers = v })) ≡ option_and_then (λ p. merged p (record x { workers = v })) (with_workers n (record o { workers = w }))
    some None None = refl
    some None (Some v) = refl
    some (Some w) None = refl
    some (Some w) (Some v) = refl

pub merged-with_trace : (o : Options) (x : Option Options) → option_and_then (merged o) (option_and_then with_trace x) ≡ option_and_then (λ p. option_and_then (merged p) x) (with_trace o)
merged-with_trace o None = none o.trace
  where
    none : (t : Bool) → None ≡ option_and_then {T = Options} {U = Options} (λ p. None) (with_trace (record o { trace = t }))
    none false = refl
    none true = refl
merged-with_trace o (Some x) = some o.trace x.trace
  where
    some : (t u : Bool) → option_and_then (merged (record o { trace = t })) (with_trace (record x { trace = u })) ≡ option_and_then (λ p. merged p (record x { trace = u })) (with_trace (record o { trace = t }))
    some false false = refl
    some false true = sym (trace_twice (is_some o.workers && is_some x.workers) (is_some o.scene && is_some x.scene) (Some (record { workers = option_or o.workers x.workers; trace = true; scene = option_or o.scene x.scene })))
    some true false = trace_twice (is_some o.workers && is_some x.workers) (is_some o.scene && is_some x.scene) (Some (record { workers = option_or o.workers x.workers; trace = true; scene = option_or o.scene x.scene }))
    some true true = refl

pub merged-with_scene : (n : ℕ) (o : Options) (x : Option Options) → option_and_then (merged o) (option_and_then (with_scene n) x) ≡ option_and_then (λ p. option_and_then (merged p) x) (with_scene n o)
merged-with_scene n o None = none o.scene
  where
    none : (s : Option ℕ) → None ≡ option_and_then {T = Options} {U = Options} (λ p. None) (with_scene n (record o { scene = s }))
    none None = refl
    none (Some s) = refl
merged-with_scene n o (Some x) = some o.scene x.scene
  where
    some : (s u : Option ℕ) → option_and_then (merged (record o { scene = s })) (with_scene n (record x { scene = u })) ≡ option_and_then (λ p. merged p (record x { scene = u })) (with_scene n (record o { scene = s }))
    some None None = refl
    some None (Some u) = sym (scene_twice (is_some o.workers && is_some x.workers) (o.trace && x.trace) (Some (record { workers = option_or o.workers x.workers; trace = o.trace || x.trace; scene = Some n })))
    some (Some s) None = scene_twice (is_some o.workers && is_some x.workers) (o.trace && x.trace) (Some (record { workers = option_or o.workers x.workers; trace = o.trace || x.trace; scene = Some s }))
    some (Some s) (Some u) = refl

-- what each word adds to the options so far: `q`, and then the rest

pub completed-workers : (o : Options) (words : List (List ℕ)) (word value : List ℕ) (rest : List (List ℕ)) (n : ℕ) (q : Option Options) → words ≡ word ∷ value ∷ rest → word ≡ codes "--workers" → number_between 1 64 value ≡ Some n → with_workers n o ≡ q → completed o words ≡ option_and_then (λ p. completed p rest) q
completed-workers o words word value rest n q all named valued more =
    rw all (rw named (rw valued (rw (← more) (merged-with_workers n o (options_of rest)))))

pub completed-trace : (o : Options) (words : List (List ℕ)) (word : List ℕ) (rest : List (List ℕ)) (q : Option Options) → words ≡ word ∷ rest → word ≡ codes "--trace" → with_trace o ≡ q → completed o words ≡ option_and_then (λ p. completed p rest) q
completed-trace o words word [] q all named more = rw all (rw named (rw (← more) (merged-with_trace o (Some no_options))))
completed-trace o words word (value ∷ rest) q all named more = rw all (rw named (rw (← more) (merged-with_trace o (options_of (value ∷ rest)))))

pub completed-scene : (o : Options) (words : List (List ℕ)) (word value : List ℕ) (rest : List (List ℕ)) (n : ℕ) (q : Option Options) → words ≡ word ∷ value ∷ rest → word ≡ codes "--scene" → number_between 1 2 value ≡ Some n → with_scene n o ≡ q → completed o words ≡ option_and_then (λ p. completed p rest) q
completed-scene o words word value rest n q all named valued more =
    rw all (rw named (rw valued (rw (← more) (merged-with_scene n o (options_of rest)))))

differ : (a b : List ℕ) → a ≢ b → bytes_eq a b ≡ false
differ a b other = by_test (bytes_eq a b) (bytes_eq-Decides a b).0
  where
    by_test : (r : Bool) → (r ≡ true → a ≡ b) → r ≡ false
    by_test true same = absurd (other (same refl))
    by_test false same = refl

-- no other word is an option
pub completed-unknown : (o : Options) (words : List (List ℕ)) (word : List ℕ) (rest : List (List ℕ)) → words ≡ word ∷ rest → word ≢ codes "--workers" → word ≢ codes "--trace" → word ≢ codes "--scene" → completed o words ≡ None
completed-unknown o words word [] all no_workers no_trace no_scene = rw all (rw (differ word (codes "--trace") no_trace) refl)
completed-unknown o words word (value ∷ rest) all no_workers no_trace no_scene =
    rw all (rw (differ word (codes "--trace") no_trace) (rw (differ word (codes "--workers") no_workers) (rw (differ word (codes "--scene") no_scene) refl)))
