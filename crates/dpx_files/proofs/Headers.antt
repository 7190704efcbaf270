-- A header is read back, link by link.
use Rattle.std.proofs.Common.{◌≡◌, Bool, true, false, refl}
use Rattle.std.specs.Prelude.{Some}
use Rattle.dpx_base.specs.declared.lanes.Lanes.{Lanes}
use Rattle.dpx_base.specs.declared.lanes.Lanes.TheVariants.{One, Two, Four}
use Rattle.dpx_base.specs.declared.link.Link.{Link}
use Rattle.dpx_base.specs.declared.rate.Rate.{Rate}
use Rattle.dpx_base.specs.declared.rate.Rate.TheVariants.{Rbr, Hbr, Hbr2, Hbr3}
use Rattle.dpx_base.specs.Capture.{header_bytes}
use Rattle.dpx_files.specs.Header.{header_in}

each_back : (rate : Rate) (lanes : Lanes) (enhanced : Bool)
    → let link : Link = record { rate = rate; lanes = lanes; enhanced = enhanced } in
    header_in (header_bytes link) ≡ Some link
unfolding header_in
each_back Rbr One true = refl
each_back Rbr One false = refl
each_back Rbr Two true = refl
each_back Rbr Two false = refl
each_back Rbr Four true = refl
each_back Rbr Four false = refl
each_back Hbr One true = refl
each_back Hbr One false = refl
each_back Hbr Two true = refl
each_back Hbr Two false = refl
each_back Hbr Four true = refl
each_back Hbr Four false = refl
each_back Hbr2 One true = refl
each_back Hbr2 One false = refl
each_back Hbr2 Two true = refl
each_back Hbr2 Two false = refl
each_back Hbr2 Four true = refl
each_back Hbr2 Four false = refl
each_back Hbr3 One true = refl
each_back Hbr3 One false = refl
each_back Hbr3 Two true = refl
each_back Hbr3 Two false = refl
each_back Hbr3 Four true = refl
each_back Hbr3 Four false = refl

pub header_back : (link : Link) → header_in (header_bytes link) ≡ Some link
header_back link = each_back link.rate link.lanes link.enhanced
