-- How lines follow one another.
use Rattle.std.proofs.Common.{◌≡◌, ℕ, List, [], ◌∷◌, ◌++◌, append_assoc, sym, refl, ap, ◌∙◌, subst}
use Rattle.std.proofs.lemmas.List.{append-nil}
use Rattle.meaning.specs.Lts.{Lts}
use Rattle.shelf.specs.Sheets.{Sheets}
use Rattle.study.specs.declared.study.Study.{Study}
use Rattle.listing.specs.Lines.{lines_of}
use Rattle.listing.specs.Listing.{Item, item_text, text_of, AllAnswered, none, more}
use Rattle.listing.specs.Steps.{Stands, LineDone, LinesDone}

module _ (M : Lts) (names : List (List ℕ)) (formulas nodes : ℕ) (text before : List ℕ) where
  -- What is said of the lines up to here. Whatever is said of the rest, together it is what is said
  -- of all.
  pub record SoFar (st : Study) (sh : Sheets) (rest now : List ℕ) : Type 0 where
    pub formulas_now : ℕ
    pub nodes_now : ℕ
    pub stands : Stands M st sh formulas_now nodes_now
    pub together : (ys : List Item) → AllAnswered M names formulas_now nodes_now (lines_of rest) ys →
        (xs : List Item) × AllAnswered M names formulas nodes (lines_of text) xs × (now ++ text_of names ys ≡ before ++ text_of names xs)

  pub one_on : (st st' : Study) (sh sh' : Sheets) (rest more_text line now after : List ℕ) → lines_of rest ≡ line ∷ lines_of more_text →
      (k : SoFar st sh rest now) → LineDone M names k.formulas_now k.nodes_now line st' sh' now after → SoFar st' sh' more_text after
  one_on st st' sh sh' rest more_text line now after e k d = record {
    formulas_now = d.formulas_now;
    nodes_now = d.nodes_now;
    stands = d.stands;
    together = λ ys a.
        let t = k.together (d.item ∷ ys) (subst (λ (ls : List (List ℕ)). AllAnswered M names k.formulas_now k.nodes_now ls (d.item ∷ ys)) (sym e) (more d.answered a)) in
        (t.0, t.1, ap (λ x. x ++ text_of names ys) d.written ∙ append_assoc now (item_text names d.item) (text_of names ys) ∙ t.2);
  }

  pub all_done : (st : Study) (sh : Sheets) (rest now : List ℕ) → rest ≡ [] → SoFar st sh rest now → LinesDone M names formulas nodes text before now
  all_done st sh rest now e k =
      let t = k.together [] (subst (λ (x : List ℕ). AllAnswered M names k.formulas_now k.nodes_now (lines_of x) []) (sym e) none) in
      record { items = t.0; answered = t.1; written = sym (append-nil now) ∙ t.2 }

pub at_first : (M : Lts) (names : List (List ℕ)) (formulas nodes : ℕ) (text before : List ℕ) (st : Study) (sh : Sheets) → Stands M st sh formulas nodes →
    SoFar M names formulas nodes text before st sh text before
at_first M names formulas nodes text before st sh k = record { formulas_now = formulas; nodes_now = nodes; stands = k; together = λ ys a. (ys, a, refl) }
