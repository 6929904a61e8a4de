-- What the first pass over the lines finds out, before anything is written.
use Rattle.std.specs.Prelude.{ℕ, ◌+◌, Bool, ◌&&◌, List, replicate, Option, nat_le, nat_lt, slice_index, slice_set, if◌then◌else◌}
use Rattle.std.specs.Option.{option_map}
use Rattle.std.specs.List.{fold}
use Rattle.base.specs.Listing.{with_name, has_room_for}
use Rattle.aut.specs.declared.grid_shape.GridShape.{GridShape}
use Rattle.aut.specs.declared.survey.Fit.{Fit}
use Rattle.aut.specs.declared.survey.Fit.TheVariants.{Whole, Full, Outside}
use Rattle.aut.specs.declared.survey.Survey.{Survey}
use Rattle.aut.specs.Form.{Transition}

-- the shape of the grid, and of the lines so far the names, how many transitions each state has,
-- and whether all have room in the grid
pub record Seen : Type 0 where
  pub shape : GridShape
  pub names : List (List ℕ)
  pub counts : List ℕ
  pub fit : Fit

abbrev pub seen : Survey → Seen
seen s = record { shape = s.shape; names = s.labels; counts = s.counts.taken; fit = s.fit }

-- no line yet
abbrev pub unseen : GridShape → List (List ℕ) → Seen
unseen shape names =
    record { shape = shape; names = names; counts = replicate 65536 0; fit = Whole }

-- both states are below n
abbrev pub within : ℕ → Transition → Bool
within n l = nat_lt l.from n && nat_lt l.to n

abbrev pub no_room : Seen → Seen
no_room v = record { shape = v.shape; names = v.names; counts = v.counts; fit = Full }

-- a state out of range, after which nothing is noted
abbrev pub outside : Seen → Seen
outside v = record { shape = v.shape; names = v.names; counts = v.counts; fit = Outside }

-- its label is among the names, and it is counted at its state
abbrev pub named : Transition → Seen → Seen
named l v = record {
  shape = v.shape;
  names = with_name l.label v.names;
  counts = slice_set v.counts l.from (slice_index v.counts l.from + 1);
  fit = v.fit;
}

-- one transition more at its state, if that has a free slot and the label a place
abbrev pub placed : Transition → Seen → Seen
placed l v =
    if nat_le v.shape.slots (slice_index v.counts l.from) then no_room v
    else (if has_room_for l.label v.names then named l v else no_room v)

-- one line more whose states are in range, by how those before it fit
abbrev pub noted_by : Fit → Transition → Seen → Seen
noted_by Whole l v = placed l v
noted_by Full l v = v
noted_by Outside l v = v

-- one line more
abbrev pub noted : Transition → Seen → Seen
noted l v = if within v.shape.states l then noted_by v.fit l v else outside v

abbrev pub all_noted : Seen → List Transition → Seen
all_noted v ls = fold (λ x l. noted l x) v ls

-- what the lines of a text show, if it has just these
abbrev pub surveyed : Seen → Option (List Transition) → Option Seen
surveyed v lines = option_map (all_noted v) lines
