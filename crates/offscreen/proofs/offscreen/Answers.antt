-- What is left of `offscreen`: past the test the device is well-formed, so its mode is in the range that its edges are worked out for.
-- Assumes nothing.
use Rattle.std.proofs.Common.{arith, ◌≡◌, true}
use Rattle.device.specs.Device.{well_formed}
use Rattle.device.proofs.Laws.{well_formed_lem, fb_size_fits}
use Rattle.offscreen.proofs.offscreen.Goals as goal

pub edges_of-requires : goal.edges_of-requires
edges_of-requires c =
    let good : well_formed c.args.d ≡ true = grind arith in
    let w = well_formed_lem _ good in
    (w.width_low, w.width_high, fb_size_fits _ w, w.pixels_high)
