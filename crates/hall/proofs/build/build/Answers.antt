-- `build` answers as a build does: refused, the store is as it was; accepted, the hall is written into it.
use Rattle.std.proofs.Common.{◌∙◌}
use Rattle.model.specs.Numbers.{number_on}
use Rattle.hall.proofs.Building.{build_kept, buildable, build_written}
use Rattle.hall.proofs.build.build.Goals as goal

pub returns-in_err-check_build : goal.returns-in_err-check_build
returns-in_err-check_build c = record { answer = number_on _ _ c.from_residual.ensures.1 ∙ c.in_err-check_build.ensures; store = build_kept _ _ _ _ c.in_err-check_build.ensures }

pub build_hall-requires : goal.build_hall-requires
build_hall-requires c = buildable _ _ _ c.in_ok-check_build.ensures

pub returns : goal.returns
returns c = record { answer = c.in_ok-check_build.ensures; store = build_written _ _ _ c.in_ok-check_build.ensures c.build_hall.ensures }
