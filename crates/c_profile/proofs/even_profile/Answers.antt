-- Where the host refuses nothing the answer is the call's (`profile_called`), and what that call asks of points and knots is left
-- (`own_fits`).
use mathlib.Core.Path.{refl, sym}
use Rattle.std.specs.Prelude.{Ok, Err}
use Rattle.query_profile.specs.ProfileCalls.{even_profile_told}
use Rattle.query_profile.specs.declared.ProfileRefusal.TheVariants.{Refused, NotFinite, NotRising, Uneven}
use Rattle.c_profile.proofs.Exported.{own_fits, profile_called}
use Rattle.c_profile.proofs.even_profile.Goals as goal

pub even_profile_of_points-requires : goal.even_profile_of_points-requires
even_profile_of_points-requires c = own_fits _ _ _ c.args.told.now (sym c.in_default.ensures)

pub returns-in-Ok : goal.returns-in-Ok
returns-in-Ok c =
    profile_called _ _ _ _ c.in_default.ensures refl (even_profile_told (Ok c.in-Ok.field-0)) c.in-Ok.ensures.0 c.store_told.ensures

pub returns-in-Err-Refused : goal.returns-in-Err-Refused
returns-in-Err-Refused c =
    rw c.tell_none-in-Err-Refused.ensures.0
    (profile_called _ _ _ _ c.in_default.ensures refl (even_profile_told {T = Unit {0}} (Err (Refused c.in-Err-Refused.refusal)))
    (rw c.in-Err-Refused.field-0-is at c.in-Err-Refused.ensures.0) c.tell_none-in-Err-Refused.ensures.1)

pub returns-in-Err-NotFinite : goal.returns-in-Err-NotFinite
returns-in-Err-NotFinite c =
    rw c.tell_lack.ensures.0
    (profile_called _ _ _ _ c.in_default.ensures refl (even_profile_told {T = Unit {0}} (Err (NotFinite c.in-Err-NotFinite.lack)))
    (rw c.in-Err-NotFinite.field-0-is at c.in-Err-NotFinite.ensures.0) c.tell_lack.ensures.1)

pub returns-in-Err-NotRising : goal.returns-in-Err-NotRising
returns-in-Err-NotRising c =
    rw c.tell_lack-in-Err-NotRising.ensures.0
    (profile_called _ _ _ _ c.in_default.ensures refl (even_profile_told {T = Unit {0}} (Err (NotRising c.in-Err-NotRising.lack)))
    (rw c.in-Err-NotRising.field-0-is at c.in-Err-NotRising.ensures.0) c.tell_lack-in-Err-NotRising.ensures.1)

pub returns-in-Err-Uneven : goal.returns-in-Err-Uneven
returns-in-Err-Uneven c =
    rw c.tell_lack-in-Err-Uneven.ensures.0
    (profile_called _ _ _ _ c.in_default.ensures refl (even_profile_told {T = Unit {0}} (Err (Uneven c.in-Err-Uneven.lack)))
    (rw c.in-Err-Uneven.field-0-is at c.in-Err-Uneven.ensures.0) c.tell_lack-in-Err-Uneven.ensures.1)
