-- An input has one listing at most, but for the choice among its paths.
use Rattle.std.proofs.Common.{◌≡◌, ℕ, zero, suc, ◌+◌, ◌<◌, Bool, ◌&&◌, List, take, drop, Contains, IsSome, Option, sym, refl, ap, ◌∙◌, subst, ⊎_elim, arith}
use Rattle.std.specs.List.{slice_get}
use Rattle.std.specs.Bool.{if◌then◌else◌, one_answer}
use Rattle.std.proofs.lemmas.Bool.{false≢true}
use Rattle.std.proofs.lemmas.Option.{same_Some}
use Rattle.base.specs.Listing.{action_of}
use Rattle.base.specs.declared.refusal.Refusal.{Refusal}
use Rattle.meaning.specs.Formula.{Formula}
use Rattle.meaning.specs.Laws.{RightMarks}
use Rattle.meaning.specs.Lts.{Lts, count_below}
use Rattle.meaning.specs.DecidingPaths.{HandedOutOf}
use Rattle.meaning.specs.Verdicts.{Verdict, counted, total, count_of, share}
use Rattle.formula.specs.Entering.{IsFormula, Unreadable, empty, too_long, no_formula, AllListed, Unlisted}
use Rattle.formula.specs.Formulas.{by_names, size}
use Rattle.formula.specs.Tokens.{Tok, name}
use Rattle.formula.specs.Trees.{Tree}
use Rattle.formula.specs.Vocabulary.{by_labels}
use Rattle.formula.proofs.Readings as readings
use Rattle.aut.specs.declared.header.Header.{Header}
use Rattle.aut.specs.Form.{Transition, Form}
use Rattle.aut.specs.Reading.{met, InRange, HasRoom}
use Rattle.aut.specs.Systems.{leaving, step_of}
use Rattle.aut.proofs.Readings as texts
use Rattle.listing.specs.Airtimes.{by_airtime, one_each}
use Rattle.listing.specs.Laws.{Alike, AllAlike, OneListing}
use Rattle.listing.specs.Lines.{lines_of}
use Rattle.listing.specs.Listing.{Item, refusal, report, VerdictOn, LineRefused, LineRead, Judged, by_meaning, Answered, AllAnswered, none, more, Said, read, Listing}
use Rattle.listing.specs.Listing as listing
use Rattle.listing.specs.Models.{tau_alone, TextRefused, no_form, out_of_range, no_room, ModelRefused, no_model, ModelRead}
use Rattle.listing.specs.Models as models
use Rattle.listing.proofs.Paths.{both_or_none}
use Rattle.listing.proofs.Sames.{Same, back, holds}

-- a line has one reading
tree_one : {text : List ℕ} {t u : Tree} → IsFormula text t → IsFormula text u → t ≡ u
tree_one {text} {t} {u} p q = readings.one_reading text t u p.parses q.parses

tokens_one : {text : List ℕ} {t u : Tree} (p : IsFormula text t) (q : IsFormula text u) → p.parses.tokens ≡ q.parses.tokens
tokens_one p q = same_Some _ _ (sym p.parses.lexed ∙ q.parses.lexed)

readable : {text : List ℕ} {t : Tree} → Unreadable text → IsFormula text t → ⊥
readable (empty e) p = absurd (omega (arith, e, p.some))
readable (too_long l) p = absurd (omega (arith, l, p.few))
readable (no_formula n) p = n _ p.parses

module _ (names : List (List ℕ)) (formulas nodes : ℕ) (text : List ℕ) where
  listed_both : {t u : Tree} (p : IsFormula text t) (q : IsFormula text u) → Unlisted (by_labels names) p.parses.tokens → AllListed (by_labels names) q.parses.tokens → ⊥
  listed_both p q a b =
      let h : IsSome (action_of a.0 names) = b a.0 (subst (λ (ts : List Tok). Contains ts (name a.0)) (tokens_one p q) a.1) in
      absurd (false≢true (subst (λ (o : Option ℕ). IsSome o) a.2 h))

  refused_one : {e d : Refusal} → LineRefused names formulas nodes text e → LineRefused names formulas nodes text d → e ≡ d
  refused_one (listing.LineRefused.no_formula n) (listing.LineRefused.no_formula m) = refl
  refused_one (listing.LineRefused.no_formula n) (listing.nameless q b) = absurd (readable n q)
  refused_one (listing.LineRefused.no_formula n) (listing.full q b r) = absurd (readable n q)
  refused_one (listing.nameless p a) (listing.LineRefused.no_formula m) = absurd (readable m p)
  refused_one (listing.nameless p a) (listing.nameless q b) = refl
  refused_one (listing.nameless p a) (listing.full q b r) = absurd (listed_both p q a b)
  refused_one (listing.full p a r) (listing.LineRefused.no_formula m) = absurd (readable m p)
  refused_one (listing.full p a r) (listing.nameless q b) = absurd (listed_both q p b a)
  refused_one (listing.full p a r) (listing.full q b s) = refl

  refused_or_read : {e : Refusal} {t : Tree} → LineRefused names formulas nodes text e → LineRead names formulas nodes text t → ⊥
  refused_or_read (listing.LineRefused.no_formula n) r = readable n r.is
  refused_or_read (listing.nameless p a) r = listed_both p r.is a r.listed
  refused_or_read {t = t} (listing.full {t = u} p a c) r =
      let e : nodes + size u ≡ nodes + size t = ap (λ x. nodes + size x) (tree_one p r.is) in
      ⊎_elim (λ l. absurd (omega (arith, l, r.few))) (λ l. absurd (omega (arith, e, l, r.small))) c

abbrev verdict_of : Bool → ℕ → ℕ → Verdict
verdict_of b n m = record { holds = b; count = n; total = m; share = share n m }

module _ (M N : Lts) (same : Same M N) (f : Formula) where
  -- marks that are right in both agree
  marks_one : (X Y : ℕ → Bool) → RightMarks M f X → RightMarks N f Y → (s : ℕ) → s < M.states → X s ≡ Y s
  marks_one X Y p q s l =
      let k = p s l in let j = q s (subst (λ (n : ℕ). s < n) same.states l) in
      one_answer (X s) (Y s) k (λ e. holds (back same) f s (j.0 e), λ h. j.1 (holds same f s h))

  counts_one : (X Y : ℕ → Bool) (n : ℕ) → ((s : ℕ) → s < n → X s ≡ Y s) → count_below X n ≡ count_below Y n
  counts_one X Y zero e = refl
  counts_one X Y (suc n) e =
      ap (λ b. count_below X n + (if b then 1 else 0)) (e n (omega arith)) ∙ ap (λ m. m + (if Y n then 1 else 0)) (counts_one X Y n (λ s l. e s (omega arith)))

  verdict_one : (v w : Verdict) → VerdictOn M f v → VerdictOn N f w → v ≡ w
  verdict_one v w p q =
      let X = p.0 in let Y = q.0 in
      let e = marks_one X Y p.1 q.1 in
      let start : X M.start ≡ Y N.start = e M.start M.lawful.begins ∙ ap Y same.start in
      let many : count_of M X ≡ count_of N Y = counts_one _ _ M.states (λ s l. ap (λ b. counted M s && b) (e s l)) ∙ ap (count_below (λ s. counted N s && Y s)) same.states in
      let all : total M ≡ total N = ap (count_below (counted N)) same.states in
      p.2 ∙ ap (λ b. verdict_of b (count_of M X) (total M)) start ∙ ap (λ n. verdict_of (Y N.start) n (total M)) many ∙ ap (λ n. verdict_of (Y N.start) (count_of N Y) n) all ∙ sym q.2

module _ (M N : Lts) (same : Same M N) (names : List (List ℕ)) where
  judged_one : (f : Formula) (n : ℕ) (x y : Item) → Judged M f n x → Judged N f n y → Alike x y
  judged_one f n _ _ (by_meaning {v = v} {p = p} a b) (by_meaning {v = w} {p = q} c d) = (
    refl,
    verdict_one M N same f v w a c,
    both_or_none by_airtime one_each M N same f p q b (subst (λ (s : ℕ). HandedOutOf by_airtime one_each N f s q) (sym same.start) d),
  )

  answered_one : (f n : ℕ) (text : List ℕ) {f1 n1 f2 n2 : ℕ} {x y : Item} → Answered M names f n text f1 n1 x → Answered N names f n text f2 n2 y → (f2 ≡ f1) × (n2 ≡ n1) × Alike x y
  answered_one f n text (listing.Answered.refused a) (listing.Answered.refused b) = (refl, refl, refused_one names f n text a b)
  answered_one f n text (listing.Answered.refused a) (listing.judged r v) = absurd (refused_or_read names f n text a r)
  answered_one f n text (listing.judged r v) (listing.Answered.refused b) = absurd (refused_or_read names f n text b r)
  answered_one f n text (listing.judged {t = t} {x = x} r v) (listing.judged {t = u} {x = y} s w) =
      let k : u ≡ t = tree_one s.is r.is in (
        refl,
        ap (λ z. n + size z) k,
        judged_one (by_names (by_labels names) t) f x y v (subst (λ (z : Tree). Judged N (by_names (by_labels names) z) f y) k w),
      )

  all_one : {f n : ℕ} {lines : List (List ℕ)} {xs ys : List Item} → AllAnswered M names f n lines xs → AllAnswered N names f n lines ys → AllAlike xs ys
  all_one none none = tt
  all_one (more {formulas = f} {nodes = n} {formulas' = f1} {nodes' = n1} {line = text} p ps) (more {formulas' = f2} {nodes' = n2} {lines = ls} {xs = ys} q qs) =
      let e = answered_one f n text p q in
      (e.2, all_one ps (subst (λ (m : ℕ). AllAnswered N names f1 m ls ys) e.1 (subst (λ (m : ℕ). AllAnswered N names m n2 ls ys) e.0 qs)))

-- what holds of the header and the lines of a text is told of it in one way
form_both : {text : List ℕ} {h g : Header} {ls ks : List Transition} (P : Header → List Transition → Type 0) → Form text h ls → Form text g ks → ¬ P h ls → P g ks → ⊥
form_both {text} {h} {g} {ls} {ks} P f k a b =
    let e = texts.one_reading text h g ls ks f k in
    a (subst (λ (x : Header). P x ls) (sym e.0) (subst (λ (x : List Transition). P g x) (sym e.1) b))

abbrev room : Header → List Transition → Type 0
room h ls = HasRoom h.states 8 tau_alone ls

text_one : {text : List ℕ} {e d : Refusal} → TextRefused text e → TextRefused text d → e ≡ d
text_one (no_form n) (no_form m) = refl
text_one (no_form n) (out_of_range f a) = absurd (n _ _ f)
text_one (no_form n) (no_room f a b) = absurd (n _ _ f)
text_one (out_of_range f a) (no_form m) = absurd (m _ _ f)
text_one (out_of_range f a) (out_of_range g b) = refl
text_one (out_of_range f a) (no_room g b c) = absurd (form_both (InRange 512) f g a b)
text_one (no_room f a b) (no_form m) = absurd (m _ _ f)
text_one (no_room f a b) (out_of_range g c) = absurd (form_both (InRange 512) g f c a)
text_one (no_room f a b) (no_room g c d) = refl

text_refused_or_read : {text : List ℕ} {e : Refusal} {h : Header} {ls : List Transition} → TextRefused text e → Form text h ls → InRange 512 h ls → room h ls → ⊥
text_refused_or_read (no_form n) g a b = n _ _ g
text_refused_or_read (out_of_range f c) g a b = form_both (InRange 512) f g c a
text_refused_or_read (no_room f c d) g a b = form_both room f g d b

module _ (input : List ℕ) where
  model_one : {e d : Refusal} → ModelRefused input e → ModelRefused input d → e ≡ d
  model_one (models.too_long l) (models.too_long m) = refl
  model_one (models.too_long l) (no_model m n) = absurd (omega (arith, l, m))
  model_one (models.too_long l) (models.refused m f r) = absurd (omega (arith, l, m))
  model_one (no_model l n) (models.too_long m) = absurd (omega (arith, l, m))
  model_one (no_model l n) (no_model m k) = refl
  model_one (no_model l n) (models.refused m f r) = absurd (n _ f.front)
  model_one (models.refused l f r) (models.too_long m) = absurd (omega (arith, l, m))
  model_one (models.refused l f r) (no_model m n) = absurd (n _ f.front)
  model_one {e} {d} (models.refused {n = n} l f r) (models.refused {n = k} m g s) =
      text_one r (subst (λ (x : ℕ). TextRefused (take x input) d) (f.only k g.front) s)

  model_refused_or_read : {e : Refusal} {names : List (List ℕ)} {M : Lts} {rest : List ℕ} → ModelRefused input e → ModelRead input names M rest → ⊥
  model_refused_or_read (models.too_long l) k = omega (arith, l, k.short)
  model_refused_or_read (no_model l n) k = n _ k.ends.front
  model_refused_or_read {e} (models.refused {n = n} l f r) k =
      text_refused_or_read (subst (λ (x : ℕ). TextRefused (take x input) e) (k.ends.only n f.front) r) k.form k.range k.room

  module _ {names names' : List (List ℕ)} {M N : Lts} {rest rest' : List ℕ} (k : ModelRead input names M rest) (j : ModelRead input names' N rest') where
    sizes : k.size ≡ j.size
    sizes = j.ends.only k.size k.ends.front

    both : (k.header ≡ j.header) × (k.lines ≡ j.lines)
    both = texts.one_reading (take j.size input) k.header j.header k.lines j.lines (subst (λ (x : ℕ). Form (take x input) k.header k.lines) sizes k.form) j.form

    names_one : names ≡ names'
    names_one = k.named ∙ ap (met tau_alone) both.1 ∙ sym j.named

    rest_one : rest ≡ rest'
    rest_one = k.follows ∙ ap (λ x. drop x input) sizes ∙ sym j.follows

    same_one : Same M N
    same_one = record {
      states = k.means.states ∙ ap (λ (x : Header). x.states) both.0 ∙ sym j.means.states;
      start = k.means.start ∙ ap (λ (x : Header). x.start) both.0 ∙ sym j.means.start;
      slots = λ s i.
          k.means.steps s i ∙ ap (λ x. step_of x (slice_get (leaving s k.lines) i)) names_one
          ∙ ap (λ x. step_of names' (slice_get (leaving s x) i)) both.1 ∙ sym (j.means.steps s i);
    }

  said_one : {names names' : List (List ℕ)} {xs ys : List Item} → Said input names xs → Said input names' ys → (names ≡ names') × AllAlike xs ys
  said_one (listing.Said.refused a) (listing.Said.refused b) = (refl, (model_one a b, tt))
  said_one (listing.Said.refused a) (read k p) = absurd (model_refused_or_read a k)
  said_one (read k p) (listing.Said.refused b) = absurd (model_refused_or_read b k)
  said_one {xs = xs} {ys = ys} (read {M = M} {rest = rest} k p) (read {names = names'} {M = N} k' p') =
      let q : AllAnswered M names' 0 0 (lines_of rest) xs = subst (λ (x : List (List ℕ)). AllAnswered M x 0 0 (lines_of rest) xs) (names_one k k') p in
      let q' : AllAnswered N names' 0 0 (lines_of rest) ys = subst (λ (x : List ℕ). AllAnswered N names' 0 0 (lines_of x) ys) (sym (rest_one k k')) p' in
      (names_one k k', all_one M N (same_one k k') names' q q')

pub one_listing : OneListing
one_listing input out out' k k' = said_one input k.said k'.said
