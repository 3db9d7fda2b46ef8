-- Pieces that were appended one after another.
use Rattle.std.proofs.Common.{◌≡◌, ℕ, List, ◌++◌, ◌∙◌, Option, Result, Ok, Err, ap, sym, append_assoc}
use Rattle.ent_io.specs.Text.{AppendsPrefix, Writes, appended}
use Rattle.ent_io.proofs.Appends.{appends_both, leaves_all, leaves_rest, prefix_left_last, prefix_left_within}

pub two_pieces : (a x y b c : List ℕ) → b ≡ a ++ x → c ≡ b ++ y → c ≡ a ++ (x ++ y)
two_pieces a x y b c first second = second ∙ ap (λ (l : List ℕ). l ++ y) first ∙ append_assoc a x y

pub three_pieces : (a x y z b c d : List ℕ) → b ≡ a ++ x → c ≡ b ++ y → d ≡ c ++ z → d ≡ a ++ (x ++ (y ++ z))
three_pieces a x y z b c d first second third = two_pieces a x (y ++ z) b d first (two_pieces b y z c d second third)

pub four_pieces : (a x y z u b c d e : List ℕ) → b ≡ a ++ x → c ≡ b ++ y → d ≡ c ++ z → e ≡ d ++ u → e ≡ a ++ (x ++ (y ++ (z ++ u)))
four_pieces a x y z u b c d e first second third fourth = two_pieces a x (y ++ (z ++ u)) b e first (three_pieces b y z u c d e second third fourth)

pub five_pieces : (a x y z u v b c d e f : List ℕ) → b ≡ a ++ x → c ≡ b ++ y → d ≡ c ++ z → e ≡ d ++ u → f ≡ e ++ v → f ≡ a ++ (x ++ (y ++ (z ++ (u ++ v))))
five_pieces a x y z u v b c d e f first second third fourth fifth =
    two_pieces a x (y ++ (z ++ (u ++ v))) b f first (four_pieces b y z u v c d e f second third fourth fifth)

-- ---- texts of sinks

-- the first part was written, and then the rest or a prefix of it
pub writes_behind : {T E : Type 0} (r : Result T E) (whole part rest : List ℕ) (old mid new : Option (List ℕ)) → whole ≡ part ++ rest → mid ≡ appended old part → Writes r rest mid new → Writes r whole old new
writes_behind (Ok value) whole part rest old mid new is first second = appends_both old mid new part rest first second ∙ ap (appended old) (sym is)
writes_behind (Err error) whole part rest old mid new is first second = prefix_left_last whole rest old mid new (leaves_rest whole whole part rest old old mid (leaves_all whole old) is first) second

-- a prefix of the first part was written
pub prefix_of_first : (whole part rest : List ℕ) (old new : Option (List ℕ)) → whole ≡ part ++ rest → AppendsPrefix part old new → AppendsPrefix whole old new
prefix_of_first whole part rest old new is prefix = prefix_left_within whole whole part rest old old new (leaves_all whole old) is prefix
