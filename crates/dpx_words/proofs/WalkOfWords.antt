-- What clap makes of words that begin with no dash.
use Rattle.std.proofs.Common.{suc, ◌≡◌, ◌∙◌, ◌++◌, ◌≤◌, ◌&&◌, ◌||◌, ap, Bool, true, false, List, [], ◌∷◌, length, Some, None, refl, sym, codes, unwrap_or, arith, append_assoc}
use Rattle.std.specs.Prelude.{fold, is_some}
use Rattle.std.specs.List.{list_all, list_any}
use Rattle.clap.specs.Lexer.{usize_max, long_of, short_of}
use Rattle.std.specs.Str.{bytes_eq}
use Rattle.clap.specs.Simple.{App, entered, new_app, new_rule, on_top, with_rule, built, is_simple, matches_of}
use Rattle.clap.specs.Takes.{takes, turn_passes, entered_passes, settle_passes, default_passes, is_valid, walk_passes}
use Rattle.clap.specs.Walk.{Rule, Text, Walk, all_of, positional, nothing_held, walk, walk_from, walked, finished}
use Rattle.clap.specs.declared.builder.action.ArgAction.TheVariants.{Append}
use Rattle.clap.specs.declared.builder.range.ValueRange.{ValueRange}
use Rattle.std.proofs.lemmas.Bool.{le-leb}
use Rattle.dpx_words.specs.Dashes.{has_dash, HasNoDash}

abbrev pub range : ValueRange
range = record { start_inclusive = 1; end_inclusive = usize_max }

abbrev pub rule : Rule
rule = record (new_rule (codes "words")) { action = Some Append; range = Some range }

abbrev pub app : App
app = with_rule (on_top (λ s. record s { no_binary_name = true }) (new_app (codes "dp_replay"))) rule

pub simple : is_simple app ≡ true
simple = refl

abbrev rules : List Rule
rules = (built app).top.rules

-- where the walk stands after some words
abbrev state : List Text → Walk
state [] = walk_from nothing_held
state (v ∷ vs) =
    record {
      held = record { rows = []; pending = Some (codes "words", v ∷ vs); skip = 0 };
      waiting = positional;
      position = 1;
      is_trailing = false;
      stopped = None;
    }

not_double : (w : Text) → has_dash w ≡ false → bytes_eq w (45 ∷ 45 ∷ []) ≡ false
not_double [] h = refl
not_double (c ∷ cs) h = rw h refl

not_long : (w : Text) → has_dash w ≡ false → long_of w ≡ None
not_long [] h = refl
not_long (c ∷ cs) h = rw h refl

not_short : (w : Text) → has_dash w ≡ false → short_of w ≡ None
not_short [] h = refl
not_short (c ∷ cs) h = rw h refl

one_more : (seen : List Text) (w : Text) → has_dash w ≡ false → walked rules [] (state seen) w ≡ state (seen ++ w ∷ [])
unfolding walked
one_more [] w h = rw (not_double w h, not_long w h, not_short w h) refl
one_more (v ∷ vs) w h = rw (not_double w h, not_long w h, not_short w h) refl

turn : (seen : List Text) (w : Text) → has_dash w ≡ false → turn_passes (built app).top [] (state seen) w ≡ true
turn [] w h = rw (not_double w h, not_long w h, not_short w h) refl
turn (v ∷ vs) w h = rw (not_double w h, not_long w h, not_short w h) refl

one_passes : (seen : List Text) (w : Text) (rest : List Text) → has_dash w ≡ false
    → walk_passes (built app).top [] (state seen) (w ∷ rest) ≡ walk_passes (built app).top [] (walked rules [] (state seen) w) rest
unfolding walk_passes
one_passes seen w rest h = ap (λ t. t && walk_passes (built app).top [] (walked rules [] (state seen) w) rest) (turn seen w h)

none_passes : (w : Walk) → walk_passes (built app).top [] w [] ≡ true
unfolding walk_passes
none_passes w = refl

all_words : (seen rest : List Text) → HasNoDash rest → fold (walked rules []) (state seen) rest ≡ state (seen ++ rest)
all_words seen [] h = ap state (sym (append_nil seen))
  where
    append_nil : (xs : List Text) → xs ++ [] ≡ xs
    append_nil [] = refl
    append_nil (x ∷ xs) = ap (λ t. x ∷ t) (append_nil xs)
all_words seen (w ∷ rest) h =
    ap (λ z. fold (walked rules []) z rest) (one_more seen w h.0)
    ∙ all_words (seen ++ w ∷ []) rest h.1
    ∙ ap state (append_assoc seen (w ∷ []) rest)

all_pass : (seen rest : List Text) → HasNoDash rest → walk_passes (built app).top [] (state seen) rest ≡ true
all_pass seen [] h = none_passes (state seen)
all_pass seen (w ∷ rest) h =
    one_passes seen w rest h.0
    ∙ ap (λ z. walk_passes (built app).top [] z rest) (one_more seen w h.0)
    ∙ all_pass (seen ++ w ∷ []) rest h.1

walk_is : (words : List Text) → HasNoDash words → walk rules [] nothing_held words ≡ state words
walk_is words h = all_words [] words h

values_are : (words : List Text) → unwrap_or (all_of (codes "words") (finished rules (state words).held)) [] ≡ words
values_are [] = refl
values_are (w ∷ words) = refl

pub matches_are : (words : List Text) → HasNoDash words → unwrap_or (all_of (codes "words") (matches_of app words)) [] ≡ words
matches_are words h =
    ap (λ z. unwrap_or (all_of (codes "words") (finished rules z.held)) []) (walk_is words h) ∙ values_are words

any_passes : (words : List Text) → list_all (λ (t : Text). true) words ≡ true
any_passes [] = refl
any_passes (w ∷ words) = any_passes words

abbrev passes_at : List Text → Walk → Bool
passes_at words z =
    entered_passes (built app) z.stopped && (walk_passes (built app).top [] (walk_from nothing_held) words
    && (settle_passes rules false z.held && (list_all default_passes rules
    && is_valid (built app).top (finished rules z.held) (is_some (entered (built app) z.stopped)))))

at_end : (words : List Text) → length words ≤ usize_max → walk_passes (built app).top [] (walk_from nothing_held) words ≡ true → passes_at words (state words) ≡ true
at_end [] room p = rw p refl
at_end (v ∷ vs) room p = rw (p, any_passes vs, le-leb 1 (suc (length vs)) (omega arith), le-leb (suc (length vs)) usize_max room) refl

pub takes_all : (words : List Text) → HasNoDash words → length words ≤ usize_max → takes app words ≡ true
takes_all words h room =
    ap (passes_at words) (walk_is words h) ∙ at_end words room (all_pass [] words h)

pub dash_none : (words : List Text) → list_any has_dash words ≡ false → HasNoDash words
dash_none [] h = tt
dash_none (w ∷ words) h = (or_left (has_dash w) (list_any has_dash words) h, dash_none words (or_right (has_dash w) (list_any has_dash words) h))
  where
    or_left : (a b : Bool) → (a || b) ≡ false → a ≡ false
    or_left true b e = e
    or_left false b e = refl

    or_right : (a b : Bool) → (a || b) ≡ false → b ≡ false
    or_right true b e = absurd (cc)
    or_right false b e = e
