-- Answers to `price` as they are read.
use Rattle.std.specs.Prelude.{ℕ, ◌+◌, ◌^◌, Bool, true, false, not, ◌&&◌, ◌||◌, ◌==◌, nat_lt, List, [], ◌∷◌, ◌++◌, take, drop, position, Option, Some, None, Ok, Err, codes, if◌then◌else◌}
use Rattle.std.specs.Ordering.{is_lt}
use Rattle.std.specs.Str.{bytes_eq}
use Rattle.weave_data.specs.Names.{name_cmp}
use Rattle.weave_data.specs.Steps.{◌>>=◌}
use Rattle.weave_data.specs.declared.name.Name.{Name}
use Rattle.weave_text.specs.Lines.{Word}
use Rattle.weave_text.specs.Numbers.{is_number, value_of}
use Rattle.program_defs.specs.declared.program.Answer.{Answer}
use Rattle.program_defs.specs.declared.program.Answer.TheVariants.{Priced}
use Rattle.program_defs.specs.declared.program.Bound.{Bound}
use Rattle.weave_report.specs.declared.fault.ReportCause.TheVariants as cause
use Rattle.weave_report.specs.ReadingFields.{ReadResult, or_cause, name_in, read_names}
use Rattle.weave_report.specs.Marks.{CutText, cut_first, is_equals}

-- the number that the word is, if it is one of 128 bits
unfoldable pub wide_number_of : Word → Option ℕ
wide_number_of word = if is_number word && nat_lt (value_of word) (2 ^ 128) then Some (value_of word) else None

-- a number of 128 bits
abbrev pub wide_number_in : Word → ReadResult ℕ
wide_number_in word = or_cause cause.Number (wide_number_of word)

-- the word between the walk and the bounds
abbrev pub is_mark : Word → Bool
is_mark word = bytes_eq word (codes ";")

-- the word for a walk that there isn't
abbrev pub is_none_word : Word → Bool
is_none_word word = bytes_eq word (codes "none")

-- the mark is at a place where it may be: right after `none`, or anywhere after a price
abbrev pub is_total_marked : Word → Option ℕ → Bool
is_total_marked total None = false
is_total_marked total (Some at) = not (is_none_word total) || (at == 0)

-- the words have the form of an answer to `price`: `price`, a walk's price or `none`, and words, the mark among them
abbrev pub is_priced_form : List Word → Bool
is_priced_form [] = false
is_priced_form (word ∷ []) = false
is_priced_form (word ∷ total ∷ words) = bytes_eq word (codes "price") && is_total_marked total (position is_mark words)

-- the walk and its price
abbrev pub priced_walk_in : Word → List Word → ReadResult (Option (List Name) × ℕ)
priced_walk_in total names =
    if is_none_word total then Ok (None, 0)
    else (wide_number_in total >>= λ price. read_names names >>= λ walk. Ok (Some walk, price))

-- a vertex with a price, cut at its mark
abbrev pub bound_of_cut : Option CutText → ReadResult Bound
bound_of_cut None = Err cause.Line
bound_of_cut (Some (vertex, mark, price)) =
    name_in vertex >>= λ vertex. wide_number_in price >>= λ price. Ok (record { vertex = vertex; price = price })

-- a vertex comes after this one, if there is one
abbrev pub is_next_after : Option Name → Name → Bool
is_next_after None v = true
is_next_after (Some before) v = is_lt (name_cmp before v)

-- a bound whose vertex comes after this one
abbrev pub in_turn : Option Name → Bound → ReadResult Bound
in_turn last bound = if is_next_after last bound.vertex then Ok bound else Err cause.Line

-- a bound, `V=D`, after the bound of this vertex
abbrev pub bound_in : Option Name → Word → ReadResult Bound
bound_in last word = bound_of_cut (cut_first is_equals word) >>= λ bound. in_turn last bound

-- more bounds after these, of which the last is that of this vertex
abbrev pub bounds_from : List Bound → Option Name → List Word → ReadResult (List Bound)
bounds_from before last [] = Ok before
bounds_from before last (word ∷ words) =
    bound_in last word >>= λ bound. bounds_from (before ++ bound ∷ []) (Some bound.vertex) words

-- the answer, if the mark among the words after the price is at this place
abbrev pub priced_at : Word → List Word → Option ℕ → ReadResult Answer
priced_at total words None = Err cause.Line
priced_at total words (Some at) =
    priced_walk_in total (take at words) >>= λ walk. bounds_from [] None (drop (at + 1) words) >>= λ bounds.
    Ok (Priced walk.0 walk.1 bounds)

-- what `price` answers
abbrev pub priced_in : List Word → ReadResult Answer
priced_in [] = Err cause.Line
priced_in (word ∷ []) = Err cause.Line
priced_in (word ∷ total ∷ words) = priced_at total words (position is_mark words)
