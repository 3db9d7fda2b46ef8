-- Pieces at the end of a text that may not be told, and prefixes of what is written.
use Rattle.std.proofs.Common.{◌≡◌, ℕ, ◌+◌, List, [], ◌++◌, take, drop, Option, None, Some, refl, sym, ◌∙◌, ap, append_assoc, take-append-drop}
use Rattle.std.proofs.Math.Seq.{take-add}
use Rattle.std.proofs.lemmas.List.{append-nil}
use Rattle.ent_io.specs.Text.{appended, AppendsPrefix, Leaves}

pub appended-nil : (text : Option (List ℕ)) → appended text [] ≡ text
appended-nil None = refl
appended-nil (Some text) = ap Some (append-nil text)

pub appended-appended : (text : Option (List ℕ)) (a b : List ℕ) → appended (appended text a) b ≡ appended text (a ++ b)
appended-appended None a b = refl
appended-appended (Some text) a b = ap Some (append_assoc text a b)

-- a piece was appended, and then another
pub appends_both : (old mid new : Option (List ℕ)) (a b : List ℕ) → mid ≡ appended old a → new ≡ appended mid b → new ≡ appended old (a ++ b)
appends_both old mid new a b first second = second ∙ ap (λ text. appended text b) first ∙ appended-appended old a b

-- a front of the piece was appended, and then a front of its rest
pub appends_more : (old mid new : Option (List ℕ)) (piece : List ℕ) (i n : ℕ) → mid ≡ appended old (take i piece) → new ≡ appended mid (take n (drop i piece)) → new ≡ appended old (take (i + n) piece)
appends_more old mid new piece i n first second = appends_both old mid new (take i piece) (take n (drop i piece)) first second ∙ ap (appended old) (sym (take-add i n piece))

-- a front of the whole was appended, and nothing more
pub prefix_at : (whole front rest : List ℕ) (old new : Option (List ℕ)) → whole ≡ front ++ rest → new ≡ appended old front → AppendsPrefix whole old new
prefix_at whole front rest old new is text = record { front = front; rest = rest; split = is; text = text }

-- a front of the whole was appended, and then a prefix of the next part
pub prefix_within : (whole front part rest : List ℕ) (old mid new : Option (List ℕ)) → whole ≡ front ++ (part ++ rest) → mid ≡ appended old front → AppendsPrefix part mid new → AppendsPrefix whole old new
prefix_within whole front part rest old mid new is text prefix = record {
  front = front ++ prefix.front;
  rest = prefix.rest ++ rest;
  split = is ∙ ap (λ (l : List ℕ). front ++ l) (ap (λ (l : List ℕ). l ++ rest) prefix.split ∙ append_assoc prefix.front prefix.rest rest) ∙ sym (append_assoc front prefix.front (prefix.rest ++ rest));
  text = appends_both old mid new front prefix.front text prefix.text;
}

-- the first n elements of the piece were appended
pub prefix_of_piece : (piece : List ℕ) (n : ℕ) (old new : Option (List ℕ)) → new ≡ appended old (take n piece) → AppendsPrefix piece old new
prefix_of_piece piece n old new text = prefix_at piece (take n piece) (drop n piece) old new (sym (take-append-drop n piece)) text

-- nothing was appended
pub prefix_none : (whole : List ℕ) (old new : Option (List ℕ)) → new ≡ old → AppendsPrefix whole old new
prefix_none whole old new same = prefix_at whole [] whole old new refl (same ∙ sym (appended-nil old))

-- at the start all is left
pub leaves_all : (whole : List ℕ) (text : Option (List ℕ)) → Leaves whole whole text text
leaves_all whole text = record { front = []; split = refl; text = sym (appended-nil text) }

-- the next part of what is left is appended
pub leaves_rest : (whole left part rest : List ℕ) (old mid new : Option (List ℕ)) → Leaves whole left old mid → left ≡ part ++ rest → new ≡ appended mid part → Leaves whole rest old new
leaves_rest whole left part rest old mid new leaves is text = record {
  front = leaves.front ++ part;
  split = leaves.split ∙ ap (λ (l : List ℕ). leaves.front ++ l) is ∙ sym (append_assoc leaves.front part rest);
  text = appends_both old mid new leaves.front part leaves.text text;
}

-- nothing is left, so all was appended
pub leaves_none : (whole left : List ℕ) (old new : Option (List ℕ)) → Leaves whole left old new → left ≡ [] → new ≡ appended old whole
leaves_none whole left old new leaves none = leaves.text ∙ ap (appended old) (sym (leaves.split ∙ ap (λ (l : List ℕ). leaves.front ++ l) none ∙ append-nil leaves.front))

-- whatever is left, a prefix was appended
pub prefix_left : (whole left : List ℕ) (old new : Option (List ℕ)) → Leaves whole left old new → AppendsPrefix whole old new
prefix_left whole left old new leaves = prefix_at whole leaves.front left old new leaves.split leaves.text

-- a prefix of the next part of what is left was appended
pub prefix_left_within : (whole left part rest : List ℕ) (old mid new : Option (List ℕ)) → Leaves whole left old mid → left ≡ part ++ rest → AppendsPrefix part mid new → AppendsPrefix whole old new
prefix_left_within whole left part rest old mid new leaves is prefix =
    prefix_within whole leaves.front part rest old mid new (leaves.split ∙ ap (λ (l : List ℕ). leaves.front ++ l) is) leaves.text prefix

-- a prefix of all that is left was appended
pub prefix_left_last : (whole left : List ℕ) (old mid new : Option (List ℕ)) → Leaves whole left old mid → AppendsPrefix left mid new → AppendsPrefix whole old new
prefix_left_last whole left old mid new leaves prefix = prefix_left_within whole left left [] old mid new leaves (sym (append-nil left)) prefix
