-- A ticker that takes its clock's arrivals.
use Rattle.std.proofs.Common.{◌≡◌, ℕ, zero, suc, ◌<◌, ◌≤◌, ◌+◌, ◌^◌, List, [], ◌∷◌, ◌++◌, length}
use Rattle.std.proofs.Common.{length-append}
use Rattle.std.proofs.Common.{refl, sym, ap, arith, ◌∙◌, true, false, inl, inr, All, Option, Some, None, nat_le}
use Rattle.std.proofs.Common.{slice_get, get_or, drop, drop-cons}
use Rattle.std.specs.Prelude.{if◌then◌else◌}
use Rattle.std.proofs.lemmas.Bool.{cases_lt, le-leb, lt-leb}
use Rattle.std.proofs.lemmas.Option.{slice_get_within, get_or_from_slice_get}
use Rattle.dpx_base.proofs.Beams.{pixels_step}
use Rattle.dpx_base.specs.declared.pixel.Pixel.{Pixel}
use Rattle.dpx_base.specs.declared.depth.Depth.{Depth}
use Rattle.dpx_base.specs.Beam.{pixels_before, pixels_in}
use Rattle.dpx_base.specs.Mode.{depth_bits}
use Rattle.dpx_base.specs.Plan.{PlanFacts, timing}
use Rattle.dpx_base.specs.Timing.{IsPossible}
use Rattle.dpx_base.specs.Unpacking.{InRange}
use Rattle.dpx_timing.proofs.Sizes.{plan_possible}
use Rattle.dpx_buffer.specs.Buffer.{BufferState, Holds, HasRoom, bytes_whole}
use Rattle.dpx_buffer.proofs.Shift.{room_shown}
use Rattle.dpx_source.specs.declared.bad_pixel.BadPixel.{BadPixel}
use Rattle.dpx_source.specs.declared.ticker.Ticker.TheInside.{Inside}
use Rattle.dpx_source.specs.Inside.{state_of, IsInside}
use Rattle.dpx_source.specs.LineSums.{sent_before}
use Rattle.dpx_source.specs.Pixels.{bad_value, bad_or_later, first_bad}
use Rattle.dpx_source.specs.Ticker.{TickerState, StandsFor, IsTicker, shown, sets_given}
use Rattle.dpx_source.proofs.Ready.{ready_is}
use Rattle.dpx_source.proofs.Stands.{sent_enough}

-- a ticker whose clock's set was given
pub record IsAbsorbing (t : TickerState) (xs : List Pixel) : Type 0 where
  pub ticker : IsTicker t
  pub given : t.given ≡ true
  pub count : length xs ≡ pixels_in (shown t.plan) t.clock

pub absorbing : (a : Inside) (now : TickerState) (xs : List Pixel) → state_of a ≡ now → IsInside a → a.refusal ≡ None
    → (now.refusal ≡ None → now.given ≡ true)
    → (now.refusal ≡ None → length xs ≡ pixels_in (shown now.plan) now.clock) → IsAbsorbing (state_of a) xs
absorbing a now xs e inside none given count =
    let calm : now.refusal ≡ None = sym (ap (λ (z : TickerState). z.refusal) e) ∙ none in
    record {
      ticker = inside.ticker;
      given = ap (λ (z : TickerState). z.given) e ∙ given calm;
      count = count calm ∙ sym (ap (λ (z : TickerState). pixels_in (shown z.plan) z.clock) e);
    }

pub given_now : (t : TickerState) → t.given ≡ true → sets_given t ≡ t.clock + 1
given_now t g = ap (λ z. if z then t.clock + 1 else t.clock) g

held : (t : TickerState) (pixels : List Pixel) → t.given ≡ true → StandsFor pixels t
    → Holds pixels (sent_before t.plan (t.clock + 1)) t.buffer
held t pixels given s = rw (← given_now t given) s.buffer

-- pixels before the next clock
next_due : (t : TickerState) (xs pixels : List Pixel) → IsAbsorbing t xs → StandsFor pixels t
    → length pixels + length xs ≡ pixels_before (shown t.plan) (t.clock + 1)
next_due t xs pixels a s = omega (arith, s.arrived, a.count, pixels_step (shown t.plan) t.clock)

pub absorbs_room : (t : TickerState) (xs : List Pixel) → IsAbsorbing t xs → HasRoom t.buffer (length xs)
absorbs_room t xs a =
    let s : StandsFor a.ticker.pixels t = a.ticker.stands in
    let possible : IsPossible (timing t.buffer.plan) = rw s.plan (plan_possible t.plan a.ticker.planned) in
    let whole : bytes_whole (timing t.buffer.plan) (length a.ticker.pixels + length xs)
    ≡ bytes_whole (timing t.plan) (pixels_before (shown t.plan) (t.clock + 1)) =
    ap (λ (z : PlanFacts). bytes_whole (timing z) (length a.ticker.pixels + length xs)) s.plan
    ∙ ap (bytes_whole (timing t.plan)) (next_due t xs a.ticker.pixels a s) in
    room_shown t.buffer a.ticker.pixels (sent_before t.plan (t.clock + 1)) (length xs) possible
    (held t a.ticker.pixels a.given s)
    (omega (arith, whole, sent_enough t.plan (t.clock + 1) (ready_is t.plan a.ticker.planned)))

-- the ticker a clock later
abbrev pub later : TickerState → List Pixel → BufferState → TickerState
later t xs after = record t { clock = t.clock + 1; given = false; absorbed = t.absorbed + length xs; buffer = after }

pub absorbs_stands : (t : TickerState) (xs pixels : List Pixel) (after : BufferState) → IsAbsorbing t xs
    → after.plan ≡ t.buffer.plan
    → ((ys : List Pixel) (taken : ℕ) → Holds ys taken t.buffer → Holds (ys ++ xs) taken after) → StandsFor pixels t
    → StandsFor (pixels ++ xs) (later t xs after)
absorbs_stands t xs pixels after a same takes s = record {
  plan = same ∙ s.plan;
  absorbed = omega (arith, s.absorbed, length-append pixels xs);
  arrived = omega (arith, length-append pixels xs, next_due t xs pixels a s);
  buffer = takes pixels (sent_before t.plan (t.clock + 1)) (held t pixels a.given s);
}

pub absorbs_ticker : (t : TickerState) (xs : List Pixel) (after : BufferState) → IsAbsorbing t xs → length xs ≤ 2
    → after.plan ≡ t.buffer.plan
    → ((ys : List Pixel) (taken : ℕ) → Holds ys taken t.buffer → Holds (ys ++ xs) taken after)
    → IsTicker (later t xs after)
absorbs_ticker t xs after a few same takes = record {
  planned = a.ticker.planned;
  pixels = a.ticker.pixels ++ xs;
  stands = absorbs_stands t xs a.ticker.pixels after a same takes a.ticker.stands;
  few = omega (arith, a.ticker.few, few);
  within = omega (arith, a.ticker.within, given_now t a.given);
  short = a.ticker.short;
}

pub refused_ticker : (t : TickerState) (refusal : Option BadPixel) → IsTicker t
    → IsTicker (record t { refusal = refusal })
refused_ticker t refusal ticker = record {
  planned = ticker.planned;
  pixels = ticker.pixels;
  stands = record {
    plan = ticker.stands.plan;
    absorbed = ticker.stands.absorbed;
    arrived = ticker.stands.arrived;
    buffer = ticker.stands.buffer;
  };
  few = ticker.few;
  within = ticker.within;
  short = ticker.short;
}

abbrev is_there : {X : Type 0} → Option X → ℕ
is_there None = 0
is_there (Some x) = 1

nothing_bad : (number : ℕ) (o : Option ℕ) (rest : Option BadPixel) → bad_or_later number o rest ≡ None
    → (o ≡ None) × (rest ≡ None)
nothing_bad number None rest h = (refl, h)
nothing_bad number (Some value) rest h = absurd (omega (arith, ap is_there h))

-- what a component is where nothing is found up to it
tested : (a b v : ℕ) (x : Option ℕ) → (if nat_le a b then Some v else x) ≡ None → (b < a) × (x ≡ None)
tested a b v x h = elim (cases_lt b a) [
  | inl less ↦ (less, rw (lt-leb a b less) at h)
  | inr more ↦ absurd (omega (arith, ap is_there (rw (le-leb a b more) at h)))
]

in_range : (depth : ℕ) (x : Pixel) → bad_value depth x ≡ None → InRange depth x
in_range depth x h =
    let r = tested (2 ^ depth) x.r x.r _ h in
    let g = tested (2 ^ depth) x.g x.g _ r.1 in
    let b = tested (2 ^ depth) x.b x.b _ g.1 in
    record { r = r.0; g = g.0; b = b.0 }

in_front : (depth : ℕ) (x : Pixel) (xs : List Pixel) → InRange depth x → All (InRange depth) xs
    → All (InRange depth) (x ∷ xs)
in_front depth x xs h all zero d few = h
in_front depth x xs h all (suc k) d few = all k d (omega (arith, few))

-- pixels of which none is bad are in range
pub range_of : (depth number : ℕ) (xs : List Pixel) → first_bad depth number xs ≡ None → All (InRange depth) xs
range_of depth number [] h = λ k d few. absurd (omega (arith, few))
range_of depth number (x ∷ xs) h =
    let parts = nothing_bad number (bad_value depth x) (first_bad depth (number + 1) xs) h in
    in_front depth x xs (in_range depth x parts.0) (range_of depth (number + 1) xs parts.1)

pub absorbs_range : (t : TickerState) (xs : List Pixel) (d : Depth) (number : ℕ) (o : Option BadPixel) → IsTicker t
    → d ≡ t.plan.mode.depth
    → o ≡ first_bad (depth_bits d) number xs → o ≡ None → All (InRange (depth_bits t.buffer.plan.mode.depth)) xs
absorbs_range t xs d number o ticker same is none =
    rw (ticker.stands.plan, ← same) (range_of (depth_bits d) number xs (sym is ∙ none))

-- one pixel further
pub bad_step : (depth number place : ℕ) (xs : List Pixel) (x : Pixel) → slice_get xs place ≡ Some x
    → first_bad depth (number + place) (drop place xs)
    ≡ bad_or_later (number + place) (bad_value depth x) (first_bad depth (number + (place + 1)) (drop (place + 1) xs))
bad_step depth number place xs x h =
    let inside : place < length xs = slice_get_within xs place x h in
    let is : get_or xs place x ≡ x = get_or_from_slice_get xs place x x h in
    let e : number + place + 1 ≡ number + (place + 1) = omega arith in
    let after : suc place ≡ place + 1 = omega arith in
    let next : drop (suc place) xs ≡ drop (place + 1) xs = ap (λ (k : ℕ). drop k xs) after in
    rw (drop-cons xs place x inside, is, next, e) refl

-- the first bad pixel of a list, where none before this place is bad
pub bad_found : (depth number place value : ℕ) (xs : List Pixel) (x : Pixel) → slice_get xs place ≡ Some x
    → first_bad depth number xs ≡ first_bad depth (number + place) (drop place xs) → bad_value depth x ≡ Some value
    → Some (record { number = number + place; value = value }) ≡ first_bad depth number xs
bad_found depth number place value xs x h before is =
    sym (before ∙ bad_step depth number place xs x h ∙ ap (λ z. bad_or_later (number + place) z
    (first_bad depth (number + (place + 1)) (drop (place + 1) xs))) is)

pub bad_later : (depth number place : ℕ) (xs : List Pixel) (x : Pixel) → slice_get xs place ≡ Some x
    → first_bad depth number xs ≡ first_bad depth (number + place) (drop place xs) → bad_value depth x ≡ None
    → first_bad depth number xs ≡ first_bad depth (number + (place + 1)) (drop (place + 1) xs)
bad_later depth number place xs x h before is =
    before ∙ bad_step depth number place xs x h ∙ ap (λ z. bad_or_later (number + place) z
    (first_bad depth (number + (place + 1)) (drop (place + 1) xs))) is
