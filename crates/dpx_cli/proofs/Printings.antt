-- What was printed before, and what was printed behind it.
use Rattle.std.proofs.Common.{◌≡◌, ◌⊎◌, ℕ, List, [], ◌++◌, refl, sym, ap, ◌∙◌, subst, arith, append_assoc, inl, inr}
use Rattle.std.proofs.Common.{Result, Ok, Err}
use Rattle.std.specs.Prelude.{⊤}
use Rattle.dpx_base.specs.Seen.{SinkSeen}
use Rattle.dpx_cli.specs.declared.stop.Stop.{Stop}
use Rattle.dpx_cli.specs.declared.stop.Stop.TheVariants.{OutFault}
use Rattle.dpx_cli.specs.declared.stop.Stop.TheVariants as stop
use Rattle.dpx_base.specs.Faults.{Rose}
use Rattle.dpx_cli.specs.Step.{Step, ◌⇒◌}
use Rattle.dpx_cli.specs.Stop.{stop_lines, stop_status}
use Rattle.dpx_cli.specs.Transfer.{Prints, PrintsFront}
use Rattle.dpx_cli.specs.Printing.{StepsPrint, EndsWith, StopsBehind, StopsAtOnce, Finishes, CommandPrints}
use Rattle.dpx_base.proofs.Appending.{appends_none, appends_more}

pub prints_nothing : (out now : SinkSeen) → now ≡ out → Prints (out ⇒ now) []
prints_nothing out now e =
    subst (λ (o : SinkSeen). Prints (out ⇒ o) []) (sym e) (record { taken = appends_none out.taken; calm = refl })

module _ {out middle now : SinkSeen} {xs : List ℕ} (first : Prints (out ⇒ middle) xs) where
  pub prints_more : {ys : List ℕ} → Prints (middle ⇒ now) ys → Prints (out ⇒ now) (xs ++ ys)
  prints_more {ys = ys} next = record {
    taken = appends_more _ _ _ xs ys first.taken next.taken;
    calm = next.calm ∙ first.calm;
  }

  pub breaks_behind : {ys : List ℕ} → PrintsFront (middle ⇒ now) ys → PrintsFront (out ⇒ now) (xs ++ ys)
  breaks_behind next = record {
    front = xs ++ next.front;
    rest = next.rest;
    divided = ap (λ zs. xs ++ zs) next.divided ∙ sym (append_assoc xs next.front next.rest);
    taken = appends_more _ _ _ xs next.front first.taken next.taken;
    failed = record { more = omega (arith, first.calm, next.failed.more) };
  }

  ends_behind : {text : List ℕ} {status result : ℕ} → EndsWith (middle ⇒ now) text status result
      → EndsWith (out ⇒ now) (xs ++ text) status result
  ends_behind (inl (next, e)) = inl (prints_more next, e)
  ends_behind (inr (next, e)) = inr (breaks_behind next, e)

  stops_behind : (stop : Stop) {result : ℕ} → StopsAtOnce (middle ⇒ now) stop result
      → StopsBehind (out ⇒ now) xs stop result
  stops_behind stop (inl next) = inl (ends_behind next)
  stops_behind stop (inr next) = inr (ends_behind next)

-- what the steps printed, and how the command finished behind them
pub command_prints : (out middle now : SinkSeen) (said : List ℕ) (done : Result ⊤ Stop) (result : ℕ)
    → StepsPrint (out ⇒ middle) said done → Finishes (middle ⇒ now) done result
    → CommandPrints (out ⇒ now) said done result
command_prints out middle now said (Ok done) result s f =
    (subst (λ (o : SinkSeen). Prints (out ⇒ o) said) (sym f.0) s, f.1)
command_prints out middle now said (Err OutFault) result s f =
    (subst (λ (o : SinkSeen). PrintsFront (out ⇒ o) said) (sym f.0) s, f.1)
command_prints out middle now said (Err stop) result s f = stops_behind s stop f

-- the status of an end, where nothing fails behind it, and all that is printed then
abbrev pub end_status : Result ⊤ Stop → ℕ
end_status (Ok done) = 0
end_status (Err stop) = stop_status stop

abbrev pub end_text : List ℕ → Result ⊤ Stop → List ℕ
end_text said (Ok done) = said
end_text said (Err stop) = said ++ stop_lines stop

module _ (out : Step SinkSeen) (said : List ℕ) (status : ℕ) where
  stopped_whole : (stop : Stop) → StopsBehind out said stop status → (status ≡ 8 → ⊥) → (status ≡ 10 → ⊥)
      → (status ≡ stop_status stop) × Prints out (said ++ stop_lines stop)
  stopped_whole stop (inl (inl (printed, is))) not_8 not_10 = (is, printed)
  stopped_whole stop (inl (inr (front, is))) not_8 not_10 = absurd (not_8 is)
  stopped_whole stop (inr (inl (printed, is))) not_8 not_10 = absurd (not_10 is)
  stopped_whole stop (inr (inr (front, is))) not_8 not_10 = absurd (not_8 is)

  stopped_calm : (stop : Stop) → StopsBehind out said stop status → (status ≡ 8 → ⊥)
      → out.now.faults ≡ out.before.faults
  stopped_calm stop (inl (inl (printed, is))) not_8 = printed.calm
  stopped_calm stop (inl (inr (front, is))) not_8 = absurd (not_8 is)
  stopped_calm stop (inr (inl (printed, is))) not_8 = printed.calm
  stopped_calm stop (inr (inr (front, is))) not_8 = absurd (not_8 is)

  stopped_at_8 : (stop : Stop) → (stop_status stop ≡ 8 → ⊥) → StopsBehind out said stop status → status ≡ 8
      → Rose out.before.faults out.now.faults
  stopped_at_8 stop not_8 (inl (inl (printed, is))) e = absurd (not_8 (sym is ∙ e))
  stopped_at_8 stop not_8 (inl (inr (front, is))) e = front.failed
  stopped_at_8 stop not_8 (inr (inl (printed, is))) e = absurd (omega (arith, is, e))
  stopped_at_8 stop not_8 (inr (inr (front, is))) e = front.failed

  -- a status other than 8 and 10 is that of the end, and all was printed
  pub ended_whole : (done : Result ⊤ Stop) → CommandPrints out said done status → (status ≡ 8 → ⊥) → (status ≡ 10 → ⊥)
      → (status ≡ end_status done) × Prints out (end_text said done)
  ended_whole (Ok done) p not_8 not_10 = (p.1, p.0)
  ended_whole (Err stop.OutFault) p not_8 not_10 = absurd (not_8 p.1)
  ended_whole (Err stop) p not_8 not_10 = stopped_whole stop p not_8 not_10

  pub ended_calm : (done : Result ⊤ Stop) → CommandPrints out said done status → (status ≡ 8 → ⊥)
      → out.now.faults ≡ out.before.faults
  ended_calm (Ok done) p not_8 = p.0.calm
  ended_calm (Err stop.OutFault) p not_8 = absurd (not_8 p.1)
  ended_calm (Err stop) p not_8 = stopped_calm stop p not_8

  -- 8 comes where a write of the pixels or the capture failed, or one of the report
  pub ended_at_8 : (done : Result ⊤ Stop) → CommandPrints out said done status → status ≡ 8
      → (◌≡◌ {A = Result ⊤ Stop} done (Err stop.WriteFault)) ⊎ Rose out.before.faults out.now.faults
  ended_at_8 (Ok done) p e = absurd (omega (arith, p.1, e))
  ended_at_8 (Err stop.OutFault) p e = inr p.0.failed
  ended_at_8 (Err stop.WriteFault) p e = inl refl
  ended_at_8 (Err stop.Usage) p e = inr (stopped_at_8 stop.Usage (λ c. cc) p e)
  ended_at_8 (Err (stop.Job why)) p e = inr (stopped_at_8 (stop.Job why) (λ c. cc) p e)
  ended_at_8 (Err (stop.Untrained end)) p e = inr (stopped_at_8 (stop.Untrained end) (λ c. cc) p e)
  ended_at_8 (Err (stop.Unfit why)) p e = inr (stopped_at_8 (stop.Unfit why) (λ c. cc) p e)
  ended_at_8 (Err (stop.Unfetched end)) p e = inr (stopped_at_8 (stop.Unfetched end) (λ c. cc) p e)
  ended_at_8 (Err (stop.BadEdid why requests)) p e = inr (stopped_at_8 (stop.BadEdid why requests) (λ c. cc) p e)
  ended_at_8 (Err (stop.BadPixel number value)) p e = inr (stopped_at_8 (stop.BadPixel number value) (λ c. cc) p e)
  ended_at_8 (Err (stop.PixelsEnded number)) p e = inr (stopped_at_8 (stop.PixelsEnded number) (λ c. cc) p e)
  ended_at_8 (Err (stop.Capture why)) p e = inr (stopped_at_8 (stop.Capture why) (λ c. cc) p e)
  ended_at_8 (Err (stop.NotWhole why)) p e = inr (stopped_at_8 (stop.NotWhole why) (λ c. cc) p e)
  ended_at_8 (Err stop.ReadFault) p e = inr (stopped_at_8 stop.ReadFault (λ c. cc) p e)
  ended_at_8 (Err stop.PipeFault) p e = inr (stopped_at_8 stop.PipeFault (λ c. cc) p e)
  ended_at_8 (Err stop.NoMemory) p e = inr (stopped_at_8 stop.NoMemory (λ c. cc) p e)

  stopped_status : (stop : Stop) → StopsBehind out said stop status
      → (status ≡ stop_status stop) ⊎ (status ≡ 8) ⊎ (status ≡ 10)
  stopped_status stop (inl (inl (printed, is))) = inl is
  stopped_status stop (inl (inr (front, is))) = inr (inl is)
  stopped_status stop (inr (inl (printed, is))) = inr (inr is)
  stopped_status stop (inr (inr (front, is))) = inr (inl is)

  pub ended_status : (done : Result ⊤ Stop) → CommandPrints out said done status
      → (status ≡ end_status done) ⊎ (status ≡ 8) ⊎ (status ≡ 10)
  ended_status (Ok done) p = inl p.1
  ended_status (Err stop.OutFault) p = inl p.1
  ended_status (Err stop) p = stopped_status stop p

  -- the same of a status that is known
  pub ended_with : (done : Result ⊤ Stop) (n : ℕ) → CommandPrints out said done status → status ≡ n
      → (n ≡ 8 → ⊥) → (n ≡ 10 → ⊥) → (end_status done ≡ n) × Prints out (end_text said done)
  ended_with done n p e not_8 not_10 =
      let whole = ended_whole done p (λ is. not_8 (sym e ∙ is)) (λ is. not_10 (sym e ∙ is)) in
      (sym whole.0 ∙ e, whole.1)
