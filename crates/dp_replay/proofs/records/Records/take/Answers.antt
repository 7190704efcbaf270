use Rattle.std.proofs.Common.{rules, ℕ, ◌≡◌, length, ◌+◌, [], ◌∷◌, ◌++◌, take, subst, sym, ap, ◌∙◌, arith, suc}
use Rattle.std.proofs.Math.Seq.{take-suc-set}
use Rattle.std.proofs.Math.ListN.{set}
use Rattle.dpx_base.specs.declared.pixel.Pixel.{Pixel}
use Rattle.std.proofs.lemmas.List.{length-set, take_all}
use Rattle.std.specs.Io.KnownBytes.{Consumes}
use Rattle.dp_replay.specs.Records.{TakesPixels, left_of}
use Rattle.dp_replay.proofs.Pixels.{one_taken, one_more}
use Rattle.dp_replay.proofs.records.Records.take.Goals as goal

pub loop-place-preserved : goal.loop-place-preserved
loop-place-preserved g c = record {
  calm = search rules;
  room = simp length-set c.loop-place.invariant.room;
  taken =
      let place = c.loop-place.place in
      let pixels = ap (λ (n : ℕ). take n (set c.loop-place.pixels c.from.result c.read_pixel.result)) (sym (one_more place))
      ∙ (ap (λ (i : ℕ). take (suc place) (set c.loop-place.pixels i c.read_pixel.result)) c.from.ensures
      ∙ (take-suc-set c.loop-place.pixels place c.read_pixel.result
      (omega (arith, c.loop-place.invariant.room, c.loop-place-test.true, c.requires))
      ∙ ap (λ (p : Pixel). take place c.loop-place.pixels ++ p ∷ []) c.read_pixel.ensures)) in
      let six : length c.read_record.new.bytes ≡ 6 = search rules in
      let whole = subst (Consumes (left_of c.loop-place.self) (left_of c.read_record.new.self))
      (ap (λ (n : ℕ). take n c.read_record.new.bytes) c.in-Ok-eq6.field-0-test ∙ take_all 6 _ (omega (arith, six)))
      c.in-Ok-eq6.ensures.consumed in
      subst (TakesPixels (place + 1) (left_of c.args.self.now) (left_of c.read_record.new.self)) (sym pixels)
      (one_taken place _ _ _ _ c.read_record.new.bytes c.loop-place.invariant.taken whole six);
}
