-- The lanes of a team, one by one.
use Rattle.std.proofs.Common.{◌≡◌, ℕ, zero, suc, ◌<◌, ◌≤◌, ◌+◌, ◌^◌, List, [], ◌∷◌, ◌++◌, length, take}
use Rattle.std.proofs.Common.{refl, ap, subst, arith, Some, slice_get}
use Rattle.std.proofs.lemmas.List.{take_all, take-append-le}
use Rattle.dpx_base.specs.Words.{words_of}
use Rattle.dpx_lane.specs.Receiving.{HasRead, ReadsRow, TakesRow, good_clocks}
use Rattle.dpx_lane.specs.Team.{EachLane, LanesDo, TeamRead, joined}
use Rattle.dpx_lane.specs.declared.lane_rx.LaneRx.{LaneRx}
use Rattle.dpx_align.specs.Faults.{cut}

-- a lane's state of those that took these words
pub read_at : (states : List LaneRx) (words left : List (List ℕ)) → TeamRead states words left → (j : ℕ)
    → j < length words
    → (s : LaneRx) × (slice_get states j ≡ Some s) × HasRead s (words_of words j) (words_of left j)
read_at [] [] [] h j l = absurd (omega arith)
read_at [] [] (x ∷ left) h j l = absurd h
read_at [] (w ∷ words) left h j l = absurd h
read_at (s ∷ states) [] left h j l = absurd h
read_at (s ∷ states) (w ∷ words) [] h j l = absurd h
read_at (s ∷ states) (w ∷ words) (x ∷ left) h zero l = (s, refl, h.0)
read_at (s ∷ states) (w ∷ words) (x ∷ left) h (suc j) l = read_at states words left h.1 j (omega arith)

pub read_of : (states : List LaneRx) (words left : List (List ℕ)) → TeamRead states words left → (j : ℕ)
    (s : LaneRx) → slice_get states j ≡ Some s → HasRead s (words_of words j) (words_of left j)
read_of [] [] [] h j t k = cc
read_of [] [] (x ∷ left) h j t k = absurd h
read_of [] (w ∷ words) left h j t k = absurd h
read_of (s ∷ states) [] left h j t k = absurd h
read_of (s ∷ states) (w ∷ words) [] h j t k = absurd h
read_of (s ∷ states) (w ∷ words) (x ∷ left) h zero t k =
    let same : s ≡ t = cc in
    subst (λ (y : LaneRx). HasRead y w x) same h.0
read_of (s ∷ states) (w ∷ words) (x ∷ left) h (suc j) t k = read_of states words left h.1 j t k

pub read_sizes : (states : List LaneRx) (words left : List (List ℕ)) → TeamRead states words left
    → (length states ≡ length words) × (length left ≡ length words)
read_sizes [] [] [] h = (refl, refl)
read_sizes [] [] (x ∷ left) h = absurd h
read_sizes [] (w ∷ words) left h = absurd h
read_sizes (s ∷ states) [] left h = absurd h
read_sizes (s ∷ states) (w ∷ words) [] h = absurd h
read_sizes (s ∷ states) (w ∷ words) (x ∷ left) h =
    let r = read_sizes states words left h.1 in
    (ap suc r.0, ap suc r.1)

pub done_sizes : (old : List LaneRx) (rows : List (List ℕ)) (new : List LaneRx) (outs : List (List ℕ))
    → LanesDo ReadsRow old rows new outs → (length rows ≡ length old) × (length outs ≡ length old)
done_sizes [] [] [] [] w = (refl, refl)
done_sizes [] [] [] (o ∷ outs) w = absurd w
done_sizes [] [] (t ∷ new) outs w = absurd w
done_sizes [] (r ∷ rows) new outs w = absurd w
done_sizes (s ∷ old) [] new outs w = absurd w
done_sizes (s ∷ old) (r ∷ rows) [] outs w = absurd w
done_sizes (s ∷ old) (r ∷ rows) (t ∷ new) [] w = absurd w
done_sizes (s ∷ old) (r ∷ rows) (t ∷ new) (o ∷ outs) w =
    let rest = done_sizes old rows new outs w.1 in
    (ap suc rest.0, ap suc rest.1)

-- each lane read at most so many clocks
abbrev pub AtMost : List LaneRx → ℕ → Type 0
AtMost states fed = (lane : ℕ) (s : LaneRx) → slice_get states lane ≡ Some s → good_clocks s ≤ fed

abbrev pub AllLong : List (List ℕ) → ℕ → Type 0
AllLong rows n = (j : ℕ) → j < length rows → length (words_of rows j) ≡ n

pub at_most_on : (old : List LaneRx) (rows : List (List ℕ)) (new : List LaneRx) (outs : List (List ℕ)) (fed n : ℕ)
    → LanesDo ReadsRow old rows new outs → AtMost old fed → AllLong rows n → AtMost new (fed + n)
at_most_on [] [] [] [] fed n w h e j s k = cc
at_most_on [] [] [] (o ∷ outs) fed n w h e j s k = absurd w
at_most_on [] [] (t ∷ new) outs fed n w h e j s k = absurd w
at_most_on [] (r ∷ rows) new outs fed n w h e j s k = absurd w
at_most_on (x ∷ old) [] new outs fed n w h e j s k = absurd w
at_most_on (x ∷ old) (r ∷ rows) [] outs fed n w h e j s k = absurd w
at_most_on (x ∷ old) (r ∷ rows) (t ∷ new) [] fed n w h e j s k = absurd w
at_most_on (x ∷ old) (r ∷ rows) (t ∷ new) (o ∷ outs) fed n w h e zero s k =
    let same : t ≡ s = cc in
    omega (arith, w.0.clocks, h 0 x refl, e 0 (omega arith), ap good_clocks same)
at_most_on (x ∷ old) (r ∷ rows) (t ∷ new) (o ∷ outs) fed n w h e (suc j) s k =
    at_most_on old rows new outs fed n w.1 (λ i y g. h (suc i) y g) (λ i l. e (suc i) (omega arith)) j s k

pub take_rows : (states : List LaneRx) (rows : List (List ℕ)) (fed n : ℕ) → AtMost states fed → AllLong rows n
    → fed + n < 2 ^ 62 → EachLane TakesRow states rows
take_rows [] rows fed n h e l = tt
take_rows (s ∷ states) [] fed n h e l = tt
take_rows (s ∷ states) (r ∷ rows) fed n h e l = (
  omega (arith, h 0 s refl, e 0 (omega arith), l),
  take_rows states rows fed n (λ i y g. h (suc i) y g) (λ i k. e (suc i) (omega arith)) l,
)

pub words_of-joined : (words rows : List (List ℕ)) (j : ℕ) → length rows ≡ length words → j < length words
    → words_of (joined words rows) j ≡ words_of words j ++ words_of rows j
words_of-joined [] rows j e l = absurd (omega arith)
words_of-joined (w ∷ words) [] j e l = absurd (omega arith)
words_of-joined (w ∷ words) (r ∷ rows) zero e l = refl
words_of-joined (w ∷ words) (r ∷ rows) (suc j) e l = words_of-joined words rows j (omega arith) (omega arith)

pub length-joined : (words rows : List (List ℕ)) → length rows ≡ length words
    → length (joined words rows) ≡ length words
length-joined [] rows e = refl
length-joined (w ∷ words) [] e = absurd (omega arith)
length-joined (w ∷ words) (r ∷ rows) e = ap suc (length-joined words rows (omega arith))

-- rows that are not longer than so many clocks are whole in them
pub cut_all : (clock : ℕ) (words : List (List ℕ)) → ((j : ℕ) → j < length words → length (words_of words j) ≤ clock)
    → cut clock words ≡ words
cut_all clock [] h = refl
cut_all clock (w ∷ words) h =
    let e : take clock w ≡ w = take_all clock w (h 0 (omega arith)) in
    let r = cut_all clock words (λ j l. h (suc j) (omega arith)) in
    cc

-- the first clocks stay as they are
pub cut_on : (clock : ℕ) (words rows : List (List ℕ)) → length rows ≡ length words
    → ((j : ℕ) → j < length words → clock ≤ length (words_of words j)) → cut clock (joined words rows) ≡ cut clock words
cut_on clock [] rows e h = refl
cut_on clock (w ∷ words) [] e h = absurd (omega arith)
cut_on clock (w ∷ words) (r ∷ rows) e h =
    let f : take clock (w ++ r) ≡ take clock w = take-append-le clock w r (h 0 (omega arith)) in
    let g = cut_on clock words rows (omega arith) (λ j l. h (suc j) (omega arith)) in
    cc
