-- Writes, one behind the other.
use Rattle.std.proofs.Common.{ℕ, ◌∙◌, List, [], ◌++◌, sym, ap, subst, append_assoc, arith, Option, Result, Ok, Err}
use Rattle.dpx_base.specs.Faults.{Rose}
use Rattle.std.proofs.lemmas.List.{append-nil}
use Rattle.std.specs.Io.KnownBytes.{Appends}
use Rattle.dpx_align.specs.declared.align_bad.AlignBad.{AlignBad}
use Rattle.dpx_parse.specs.declared.bad.ParseBad.{ParseBad}
use Rattle.dpx_sink.specs.Writes.{PixelsTook, LogTook, Sinks, Wrote, WroteFront, Refused, Went}
use Rattle.dpx_sink.specs.Writes.{Calm, OneFailed, LeavesCounts}
use Rattle.dpx_sink.specs.declared.output.Output.{Output}
use Rattle.dpx_sink.specs.declared.output.Output.TheVariants.{Pixels, Log}
use Rattle.dpx_sink.specs.declared.refusal.Refusal.{Refusal}
use Rattle.dpx_sink.specs.declared.refusal.Refusal.TheVariants.{Word, Set, Write}
use Rattle.dpx_base.specs.Transfer.{AppendsFront}
use Rattle.dpx_base.proofs.Appending.{appends_more, appends_none}

pub nothing_wrote : (s : Sinks) (p l : List ℕ) (R : List ℕ → List ℕ → Type 0) → R p l → Wrote s s p l R
nothing_wrote s p l R r = record {
  more_records = [];
  more_text = [];
  pix_took = appends_none s.pix.taken;
  log_took = appends_none s.log.taken;
  so = subst (λ q. R q (l ++ [])) (sym (append-nil p)) (subst (λ m. R p m) (sym (append-nil l)) r);
}

both : (R : List ℕ → List ℕ → Type 0) (p q r l m n : List ℕ) → R ((p ++ q) ++ r) ((l ++ m) ++ n)
    → R (p ++ (q ++ r)) (l ++ (m ++ n))
both R p q r l m n h =
    subst (λ x. R x (l ++ (m ++ n))) (append_assoc p q r) (subst (λ y. R ((p ++ q) ++ r) y) (append_assoc l m n) h)

-- some writes, and then more
pub wrote_on : (a b c : Sinks) (p l : List ℕ) (R S : List ℕ → List ℕ → Type 0) → Wrote a b p l R
    → ((q m : List ℕ) → R q m → Wrote b c q m S) → Wrote a c p l S
wrote_on a b c p l R S w next =
    let v = next (p ++ w.more_records) (l ++ w.more_text) w.so in
    record {
      more_records = w.more_records ++ v.more_records;
      more_text = w.more_text ++ v.more_text;
      pix_took = appends_more a.pix.taken b.pix.taken c.pix.taken w.more_records v.more_records w.pix_took v.pix_took;
      log_took = appends_more a.log.taken b.log.taken c.log.taken w.more_text v.more_text w.log_took v.log_took;
      so = both S p w.more_records v.more_records l w.more_text v.more_text v.so;
    }

front_behind : (a b c : Option (List ℕ)) (xs ys : List ℕ) → Appends a b xs → AppendsFront b c ys
    → AppendsFront a c (xs ++ ys)
front_behind a b c xs ys t f = record {
  front = xs ++ f.front;
  rest = f.rest;
  divided = ap (λ zs. xs ++ zs) f.divided ∙ sym (append_assoc xs f.front f.rest);
  taken = appends_more a b c xs f.front t f.taken;
}

pixels_behind : (failed : Output) (a b c : Option (List ℕ)) (xs ys : List ℕ) → Appends a b xs
    → PixelsTook failed b c ys → PixelsTook failed a c (xs ++ ys)
pixels_behind Pixels a b c xs ys t f = front_behind a b c xs ys t f
pixels_behind Log a b c xs ys t f = appends_more a b c xs ys t f

log_behind : (failed : Output) (a b c : Option (List ℕ)) (xs ys : List ℕ) → Appends a b xs
    → LogTook failed b c ys → LogTook failed a c (xs ++ ys)
log_behind Pixels a b c xs ys t f = appends_more a b c xs ys t f
log_behind Log a b c xs ys t f = front_behind a b c xs ys t f

-- some writes, and then a write that fails
pub front_on : (failed : Output) (a b c : Sinks) (p l : List ℕ) (R S : List ℕ → List ℕ → Type 0) → Wrote a b p l R
    → ((q m : List ℕ) → R q m → WroteFront failed b c q m S) → WroteFront failed a c p l S
front_on failed a b c p l R S w next =
    let v = next (p ++ w.more_records) (l ++ w.more_text) w.so in
    record {
      more_records = w.more_records ++ v.more_records;
      more_text = w.more_text ++ v.more_text;
      pix_took = pixels_behind failed a.pix.taken b.pix.taken c.pix.taken w.more_records v.more_records w.pix_took
          v.pix_took;
      log_took = log_behind failed a.log.taken b.log.taken c.log.taken w.more_text v.more_text w.log_took v.log_took;
      so = both S p w.more_records v.more_records l w.more_text v.more_text v.so;
    }

-- the same writes, and what follows of them
pub wrote_so : (a b : Sinks) (p l : List ℕ) (R S : List ℕ → List ℕ → Type 0) → Wrote a b p l R
    → ((q m : List ℕ) → R q m → S q m) → Wrote a b p l S
wrote_so a b p l R S w next = record {
  more_records = w.more_records;
  more_text = w.more_text;
  pix_took = w.pix_took;
  log_took = w.log_took;
  so = next (p ++ w.more_records) (l ++ w.more_text) w.so;
}

pub front_so : (failed : Output) (a b : Sinks) (p l : List ℕ) (R S : List ℕ → List ℕ → Type 0)
    → WroteFront failed a b p l R → ((q m : List ℕ) → R q m → S q m) → WroteFront failed a b p l S
front_so failed a b p l R S w next = record {
  more_records = w.more_records;
  more_text = w.more_text;
  pix_took = w.pix_took;
  log_took = w.log_took;
  so = next (p ++ w.more_records) (l ++ w.more_text) w.so;
}

-- some writes, and then a refusal
pub went_on : (a b c : Sinks) (p l : List ℕ) (R : List ℕ → List ℕ → Type 0)
    (word : AlignBad → List ℕ → List ℕ → Type 0) (set : ParseBad → List ℕ → List ℕ → Type 0)
    (part : List ℕ → List ℕ → Type 0) (refusal : Refusal) → Wrote a b p l R
    → ((q m : List ℕ) → R q m → Refused b c q m word set part refusal) → Refused a c p l word set part refusal
went_on a b c p l R word set part (Word bad) w next = wrote_on a b c p l R (word bad) w next
went_on a b c p l R word set part (Set bad) w next = wrote_on a b c p l R (set bad) w next
went_on a b c p l R word set part (Write failed) w next = front_on failed a b c p l R part w next

-- what follows of each refusal
pub refused_map : (a b : Sinks) (p l : List ℕ) (word word_ : AlignBad → List ℕ → List ℕ → Type 0)
    (set set_ : ParseBad → List ℕ → List ℕ → Type 0) (part part_ : List ℕ → List ℕ → Type 0) (refusal : Refusal)
    → ((bad : AlignBad) (q m : List ℕ) → word bad q m → word_ bad q m)
    → ((bad : ParseBad) (q m : List ℕ) → set bad q m → set_ bad q m)
    → ((q m : List ℕ) → part q m → part_ q m)
    → Refused a b p l word set part refusal → Refused a b p l word_ set_ part_ refusal
refused_map a b p l word word_ set set_ part part_ (Word bad) f g h w =
    wrote_so a b p l (word bad) (word_ bad) w (f bad)
refused_map a b p l word word_ set set_ part part_ (Set bad) f g h w = wrote_so a b p l (set bad) (set_ bad) w (g bad)
refused_map a b p l word word_ set set_ part part_ (Write failed) f g h w = front_so failed a b p l part part_ w h

-- what follows of each answer
pub went_map : {T : Type 0} (a b : Sinks) (p l : List ℕ) (ok ok_ : T → List ℕ → List ℕ → Type 0)
    (word word_ : AlignBad → List ℕ → List ℕ → Type 0) (set set_ : ParseBad → List ℕ → List ℕ → Type 0)
    (part part_ : List ℕ → List ℕ → Type 0) (r : Result T Refusal)
    → ((x : T) (q m : List ℕ) → ok x q m → ok_ x q m)
    → ((bad : AlignBad) (q m : List ℕ) → word bad q m → word_ bad q m)
    → ((bad : ParseBad) (q m : List ℕ) → set bad q m → set_ bad q m)
    → ((q m : List ℕ) → part q m → part_ q m)
    → Went a b p l ok word set part r → Went a b p l ok_ word_ set_ part_ r
went_map a b p l ok ok_ word word_ set set_ part part_ (Ok x) e f g h w = wrote_so a b p l (ok x) (ok_ x) w (e x)
went_map a b p l ok ok_ word word_ set set_ part part_ (Err refusal) e f g h w =
    refused_map a b p l word word_ set set_ part part_ refusal f g h w

-- no write failed, and then one did
failed_on : (failed : Output) (a b c : Sinks) → Calm a b → OneFailed failed b c → OneFailed failed a c
failed_on Pixels a b c calm f = (
  record { kept = omega (arith, calm.pix, f.0.kept); rose = subst (λ n. Rose n c.pix.faults) calm.pix f.0.rose },
  f.1 ∙ calm.log,
)
failed_on Log a b c calm f = (
  record { kept = omega (arith, calm.log, f.0.kept); rose = subst (λ n. Rose n c.log.faults) calm.log f.0.rose },
  f.1 ∙ calm.pix,
)

calm_on : (a b c : Sinks) → Calm a b → Calm b c → Calm a c
calm_on a b c h k = record { pix = k.pix ∙ h.pix; log = k.log ∙ h.log }

-- no write failed, and then a refusal
pub cause_on : (refusal : Refusal) (a b c : Sinks) → Calm a b → LeavesCounts refusal b c → LeavesCounts refusal a c
cause_on (Word bad) a b c calm f = calm_on a b c calm f
cause_on (Set bad) a b c calm f = calm_on a b c calm f
cause_on (Write failed) a b c calm f = failed_on failed a b c calm f
