-- From the first fault on, bytes that follow change nothing.
use Rattle.std.proofs.Common.{◌≡◌, ◌≢◌, ℕ, ◌<◌, ◌≤◌, inl, inr, List, [], ◌∷◌, ◌++◌, length, drop, map}
use Rattle.std.proofs.Common.{refl, sym, ap, subst, ◌∙◌, arith}
use Rattle.std.proofs.lemmas.Bool.{cases_lt}
use Rattle.std.proofs.lemmas.List.{length-map}
use Rattle.dpx_base.specs.Lanes.{lanes_count}
use Rattle.dpx_base.specs.declared.link.Link.{Link}
use Rattle.dpx_base.specs.declared.sym.Sym.{Sym}
use Rattle.dpx_lane.specs.Team.{joined}
use Rattle.dpx_align.specs.Aligner.{IsFirstFault, place_of}
use Rattle.dpx_align.specs.Faults.{cut}
use Rattle.dpx_align.specs.declared.align_bad.AlignBad.{AlignBad}
use Rattle.dpx_align.proofs.FirstFaults.{first_stays}
use Rattle.dpx_align.proofs.Teams.{cut_all}
use Rattle.dpx_reception.specs.Bytes.{clocks_in, received_words}
use Rattle.dpx_reception.specs.Laws.{FaultsStay}
use Rattle.dpx_reception.specs.Reception.{Fault, no_fault, word_fault, set_fault, ReceivedUpTo, Gives, AreFirstSets}
use Rattle.dpx_reception.specs.Reception.{AreSets}
use Rattle.dpx_reception.proofs.Grown.{grown, received_number, received_long, cut_twice, cut_joined, gives_by}
use Rattle.dpx_reception.proofs.Grown.{some_lanes}

-- the first word fault stands in the longer words too
pub word_stays : (lanes : ℕ) (bytes more : List ℕ) (bad : AlignBad) → 0 < lanes
    → IsFirstFault (received_words lanes bytes) bad
    → IsFirstFault (received_words lanes (bytes ++ more)) bad
word_stays lanes bytes more bad some f =
    let n = clocks_in lanes bytes in
    let all = received_words lanes (bytes ++ more) in
    let front = received_words lanes bytes in
    let rest = map (λ (r : List ℕ). drop n r) all in
    let e : joined front rest ≡ all =
    ap (λ x. joined x rest) (sym (grown lanes bytes more some)) ∙ cut_joined n all in
    let size : length rest ≡ length front =
    length-map all (λ (r : List ℕ). drop n r)
    ∙ (received_number lanes (bytes ++ more) ∙ sym (received_number lanes bytes)) in
    subst (λ (x : List (List ℕ)). IsFirstFault x bad) e
    (first_stays front rest bad n size
    (λ lane l. received_long lanes bytes lane (omega (arith, l, received_number lanes bytes))) f)

-- the first clocks' words, as far as there are any, are those of the longer bytes
pub front_same : (lanes : ℕ) (bytes more : List ℕ) (clocks : ℕ) → 0 < lanes → clocks ≤ clocks_in lanes bytes
    → cut clocks (received_words lanes bytes) ≡ cut clocks (received_words lanes (bytes ++ more))
front_same lanes bytes more clocks some l =
    ap (cut clocks) (sym (grown lanes bytes more some))
    ∙ cut_twice clocks (clocks_in lanes bytes) (received_words lanes (bytes ++ more)) l

pub whole_same : (lanes : ℕ) (bytes : List ℕ) (clocks : ℕ) → clocks_in lanes bytes ≤ clocks
    → cut clocks (received_words lanes bytes) ≡ received_words lanes bytes
whole_same lanes bytes clocks l =
    cut_all clocks (received_words lanes bytes)
    (λ lane k. omega (arith, l, received_long lanes bytes lane (omega (arith, k, received_number lanes bytes))))

-- what some first clocks give, the same or fewer clocks of the longer bytes give
pub gives_on : (lanes : ℕ) (bytes more : List ℕ) (clocks : ℕ) (have : (plain : List (List Sym)) → Type 0)
    → 0 < lanes → Gives (received_words lanes bytes) clocks have
    → (fewer : ℕ) × Gives (received_words lanes (bytes ++ more)) fewer have
gives_on lanes bytes more clocks have some g =
    let words = received_words lanes bytes in
    let all = received_words lanes (bytes ++ more) in
    let n = clocks_in lanes bytes in
    elim (cases_lt n clocks) [
      | inl l ↦
          let e : cut clocks words ≡ cut n all =
          whole_same lanes bytes clocks (omega (arith, l)) ∙ sym (grown lanes bytes more some) in
          (n, gives_by words all clocks n have e g)
      | inr l ↦ (clocks, gives_by words all clocks clocks have (front_same lanes bytes more clocks some l) g)
    ]

up_to_stays : (link : Link) (bytes more : List ℕ) (fault : Fault) (sets : List (List Sym)) → fault ≢ no_fault
    → ReceivedUpTo link (received_words (lanes_count link.lanes) bytes) (clocks_in (lanes_count link.lanes) bytes)
    fault sets
    → ReceivedUpTo link (received_words (lanes_count link.lanes) (bytes ++ more))
    (clocks_in (lanes_count link.lanes) (bytes ++ more)) fault sets
up_to_stays link bytes more no_fault sets differs h = absurd (differs refl)
up_to_stays link bytes more (word_fault bad) sets differs h =
    let lanes = lanes_count link.lanes in
    let some = some_lanes link.lanes in
    let place = place_of bad in
    let f = h.0.fault in
    let l : place.clock < clocks_in lanes bytes =
    omega (
      arith,
      f.bad.within,
      received_long lanes bytes place.lane (omega (arith, f.within, received_number lanes bytes)),
    ) in (
      word_stays lanes bytes more bad some h.0,
      gives_by (received_words lanes bytes) (received_words lanes (bytes ++ more)) place.clock place.clock
          (λ plain. AreSets link.enhanced plain sets)
          (front_same lanes bytes more place.clock some (omega (arith, l))) h.1,
    )
up_to_stays link bytes more (set_fault bad) sets differs (clocks, set, g, r) =
    let on = gives_on (lanes_count link.lanes) bytes more clocks
    (λ plain. AreFirstSets link.enhanced plain (sets ++ set ∷ [])) (some_lanes link.lanes) g in
    (on.0, set, on.1, r)

pub faults_stay : FaultsStay
faults_stay link bytes more fault frames tail differs h = record {
  sets = h.sets;
  up_to = up_to_stays link bytes more fault h.sets differs h.up_to;
  accepted = h.accepted;
}
