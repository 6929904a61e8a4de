-- A row is right by the reader's way through its text, and by the reference evaluator.
use Rattle.std.proofs.Common.{◌≡◌, ℕ, zero, suc, ◌+◌, ◌≤◌, ◌<◌, Bool, true, cond}
use Rattle.std.proofs.Common.{List, [], ◌∷◌, map, fold, Some, IsTrue, refl, ap, ◌∙◌, subst, arith, ◌↔◌}
use Rattle.std.specs.List.{All, AllByRecursion, range_with_len}
use Rattle.std.proofs.lemmas.Bool.Decides.{same_from_decides}
use Rattle.std.proofs.lemmas.List.Elements.{All-nil, All-cons}
use Rattle.meaning.specs.Deciding.{Step}
use Rattle.meaning.specs.Formula.{Holds}
use Rattle.meaning.specs.Laws.{RightMarks}
use Rattle.meaning.specs.Lts.{Lts, count_below}
use Rattle.meaning.specs.Reference.{marks}
use Rattle.meaning.specs.Verdicts.{Verdict, verdict, share, total, count_of}
use Rattle.meaning.specs.Weights.{weigh}
use Rattle.meaning.proofs.Reference.{reference_right}
use Rattle.formula.specs.Checking.{all_listed}
use Rattle.formula.specs.Formulas.{by_names, size}
use Rattle.formula.specs.Reading.{tree_of}
use Rattle.formula.specs.Tokens.{Tok, tokens_of}
use Rattle.formula.specs.Trees.{Tree}
use Rattle.formula.specs.Vocabulary.{by_labels}
use Rattle.formula.proofs.Entries.{listed}
use Rattle.formula.proofs.Readings.{agreement}
use Rattle.figures.specs.Claims.{Row, IsRight, HasNodes, Weighs}

pub all_of : {X : Type 0} (P : X → Type 0) (xs : List X) → AllByRecursion P xs → All P xs
all_of P [] h = All-nil P
all_of P (x ∷ xs) h = All-cons P x xs h.0 (all_of P xs h.1)

-- Two sets that agree below n have as many numbers there.
same_count : (X Y : ℕ → Bool) (n : ℕ) → ((s : ℕ) → s < n → X s ≡ Y s)
    → count_below X n ≡ count_below Y n
same_count X Y zero h = refl
same_count X Y (suc n) h =
    ap (λ (b : Bool). count_below X n + cond b 1 0) (h n (omega arith))
    ∙ ap (λ (k : ℕ). k + cond (Y n) 1 0) (same_count X Y n (λ s l. h s (omega arith)))

-- and are the same there, number by number.
same_marks : (X Y : ℕ → Bool) (from n : ℕ) → ((s : ℕ) → s < from + n → X s ≡ Y s)
    → map X (range_with_len from n) ≡ map Y (range_with_len from n)
same_marks X Y from zero h = refl
same_marks X Y from (suc n) h =
    ap (λ (b : Bool). b ∷ map X (range_with_len (from + 1) n)) (h from (omega arith))
    ∙ ap (λ (bs : List Bool). Y from ∷ bs) (same_marks X Y (from + 1) n (λ s l. h s (omega arith)))

-- Sets that agree at every state give the same verdict.
same_verdict : (M : Lts) (X Y : ℕ → Bool) → ((s : ℕ) → s < M.states → X s ≡ Y s)
    → verdict M X ≡ verdict M Y
same_verdict M X Y h =
    ap (λ (b : Bool). said b (count_of M X)) (h M.start M.lawful.begins)
    ∙ ap (λ (n : ℕ). said (Y M.start) n) (same_count X Y M.states h)
  where
    said : Bool → ℕ → Verdict
    said b n = record { holds = b; count = n; total = total M; share = share n (total M) }

-- What the reader makes of a text is what the grammar says it is, and what the reference evaluator
-- marks is where it holds.
pub right_by : (M : Lts) (labels : List (List ℕ)) (r : Row) (ts : List Tok) (t : Tree)
    → tokens_of r.text ≡ Some ts → tree_of ts ≡ Some t → true ≡ all_listed (by_labels labels) ts
    → map (marks M (by_names (by_labels labels) t)) (range_with_len 0 M.states) ≡ r.marked
    → verdict M (marks M (by_names (by_labels labels) t)) ≡ r.verdict
    → IsRight M labels r
right_by M labels r ts t lexed read l on e =
    let f = by_names (by_labels labels) t in
    let at_start : IsTrue r.verdict.holds ↔ Holds M f M.start =
    subst (λ (v : Verdict). IsTrue v.holds ↔ Holds M f M.start) e
    (reference_right M f M.start M.lawful.begins) in
    record {
      tree = t;
      parses = record { tokens = ts; lexed = lexed; whole = (agreement ts t).0 read };
      listed = listed (by_labels labels) ts l;
      holds = at_start;
      marked = λ X right. same_marks X (marks M f) 0 M.states (λ s l. alike X right s (omega arith)) ∙ on;
      verdict = λ X right. same_verdict M X (marks M f) (alike X right) ∙ e;
    }
  where
    alike : (X : ℕ → Bool) → RightMarks M (by_names (by_labels labels) t) X
        → (s : ℕ) → s < M.states → X s ≡ marks M (by_names (by_labels labels) t) s
    alike X right s l =
        same_from_decides (X s) (marks M (by_names (by_labels labels) t) s) (right s l)
        (reference_right M (by_names (by_labels labels) t) s l)

pub nodes_by : (text : List ℕ) (ts : List Tok) (t : Tree) → tokens_of text ≡ Some ts
    → tree_of ts ≡ Some t → HasNodes text (size t)
nodes_by text ts t lexed read =
    (t, record { tokens = ts; lexed = lexed; whole = (agreement ts t).0 read }, refl)

-- A path weighs what its tariffs come to, one joined after the other.
weigh_folds : (joined : ℕ → ℕ → ℕ) (tariff : ℕ → ℕ) (n : ℕ) (w : List Step)
    → weigh (λ v w. v ≤ w) joined tariff n w ≡ fold joined n (map (λ s. tariff s.0) w)
weigh_folds joined tariff n [] = refl
weigh_folds joined tariff n ((a, t) ∷ w) = weigh_folds joined tariff (joined n (tariff a)) w

pub weighs_by : (joined : ℕ → ℕ → ℕ) (tariffs : List ℕ) (n : ℕ) → fold joined 0 tariffs ≡ n
    → Weighs joined tariffs n
weighs_by joined tariffs n h tariff w e =
    weigh_folds joined tariff 0 w ∙ ap (fold joined 0) e ∙ h
