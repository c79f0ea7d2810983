-- A flood whose neighbours are given by the offsets of patches.
use mathlib.Core.Path.{◌≡◌, ap, subst}
use mathlib.Core.Bool.{false}
use mathlib.Core.List.{List}
use Prim.Native.Nat.{ℕ, ◌+◌, ◌-◌, ◌≤◌, ◌<◌}
use native.Mathlib.Omega.{arith}
use lib.IntN.{pos}
use lib.ListN.{length, get_or}
use Rattle.rules.specs.Grid.{is_negative}
use Rattle.pushing.specs.declared.Patch.{Patch}
use Rattle.pushing.specs.Push.{Fill, push, push_all}
use Rattle.floods.specs.Flood.{shifted, spanned, near_by, Pushable, Floodable, Flooded}
use Rattle.floods.proofs.Offsets.{near-mem, mem-near, patch-near}
use Rattle.floods.proofs.Flooding.{State, start-state, turn-taken, turn-state, ended}

module _ (p : Patch) (firsts : List ℕ) (back : ℕ) (B : Fill) (seed : ℕ) where
  abbrev offsets : List ℕ
  offsets = spanned p firsts

  -- from B, with the entries before `at` done
  abbrev pub Spread : Fill → ℕ → Type 0
  Spread f at = State (near_by offsets back) (λ v. shifted (v - back) offsets) (near-mem offsets back) (mem-near offsets back) B seed f at

  pub spread-start : Floodable offsets back B seed → Spread (push seed B) B.end
  spread-start F = start-state _ _ _ _ B seed F.ready F.seeded

  -- the same state, said otherwise
  pub spread-as : {f : Fill} {at : ℕ} (g : Fill) (next : ℕ) → f ≡ g → at ≡ next → Spread f at → Spread g next
  spread-as {f} g next e h T = subst (λ (x : Fill). Spread x next) e (subst (λ (n : ℕ). Spread f n) h T)

  -- ---- a turn

  module _ (F : Floodable offsets back B seed) (f : Fill) (at : ℕ) (T : Spread f at) (more : at < f.end) where
    pub turn_in : at < length f.work
    turn_in = let r = T.good.ready.room in omega arith

    pub turn-entry : is_negative (get_or f.work at (pos 0)) ≡ false
    turn-entry = ap is_negative (T.good.listed at T.from_start more).1

    module _ (u : ℕ) (turn : get_or f.work at (pos 0) ≡ pos u) where
      pub turn_low : back ≤ u
      turn_low = F.low u (turn-taken _ _ _ _ B seed f at T u more turn).was

      pub turn-pushable : 0 < p.wide → 0 < p.rows → Pushable p firsts (u - back) f
      turn-pushable wide some =
          record {
            ready = T.good.ready;
            some = some;
            inside = λ k r h l.
                let n = patch-near p firsts back u k r (p.wide - 1) h l (omega arith) in
                omega (arith, F.high u _ (turn-taken _ _ _ _ B seed f at T u more turn).was n, T.good.len);
          }

      pub spread-turn : Spread (push_all (shifted (u - back) offsets) f) (at + 1)
      spread-turn = turn-state _ _ _ _ B seed f at T u more turn

  pub spread-ended : (f : Fill) (at : ℕ) → f.end ≤ at → Spread f at → Flooded (near_by offsets back) B f seed
  spread-ended f at h T = ended _ _ _ _ B seed f at h T
