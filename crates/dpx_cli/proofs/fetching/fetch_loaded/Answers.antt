use Rattle.std.proofs.Common.{◌≡◌, arith}
use Rattle.std.specs.Prelude.{IfSome}
use Rattle.dpx_cli.proofs.Modelled.{told_since}
use Rattle.dpx_cli.proofs.SilentModel.{told_fetch}
use Rattle.dpx_cli.proofs.fetching.fetch_loaded.Goals as goal

pub returns-clause-fetched : goal.returns-clause-fetched
returns-clause-fetched g c =
    let fetch = c.fetch_edid.ensures.fetch in
    let fresh = c.load.ensures.loaded in
    let anew = c.load.ensures.anew in
    let now = g.P.AuxPort.state c.fetch_edid.new.port in
    let loaded : IfSome now.plan (λ told. told ≡ c.args.plan) = rw fetch.added.plan fresh.plan in
    let history : IfSome now.history (λ told. told ≡ fetch.entries) =
    told_since fetch.entries _ now.history fresh.history fetch.added.history in
    let answers = g.met.P.LoadPort.as_planned c.fetch_edid.new.port in
    record {
      entries = fetch.entries;
      fetch = fetch.done;
      caused = c.is_caused.ensures c.fetch_edid.result fetch.entries fetch.done;
      history = history;
      counted = omega (arith, fetch.added.asked, fresh.asked);
      in_all = omega (arith, fetch.added.asked_in_all, anew.asked_in_all, fetch.added.asked, fresh.asked);
      few = omega (arith, c.fetch_edid.ensures.few, fresh.asked);
      told_requests = omega (arith, c.fetch_edid.ensures.counted, fresh.asked);
      loaded = loaded;
      answers = answers;
      as_planned = told_fetch c.fetch_edid.result fetch.entries now.plan now.history fetch.done history answers;
    }

-- the history that the load began has room for all of a fetch
pub returns-clause-told : goal.returns-clause-told
returns-clause-told g c long =
    let fetch = c.fetch_edid.ensures.fetch in
    let anew = c.load.ensures.anew in
    let few = c.is_bounded.ensures.entries c.fetch_edid.result fetch.entries fetch.done in
    fetch.added.told_on (omega (arith, few, long, anew.room)) (anew.told (omega (arith, long)))
