use mathlib.Core.Path.{refl, sym, ap, ◌∙◌}
use mathlib.Core.Logic.{⊎_elim, inl, inr}
use Prim.Native.Nat.{ℕ}
use borrow.Author.Tests.{eq-eqb, ne_eqb}
use lib.Dec.{eqb}
use Rattle.frame.specs.Frame.{body_fits}
use Rattle.frame.proofs.Frames as laws
use Rattle.frame.proofs.body_fits.Goals as goal

pub returns-then-n-r : goal.returns-then-n-r
unfolding body_fits
returns-then-n-r c = let a = c.args in
    laws.fits_at a.p.plan _ 7 a.n _ c.in-7.is (rw (eq-eqb _ _ (c.if-n-r.true ∙ c.record_length-r.ensures.0)))

pub returns-in-1 : goal.returns-in-1
unfolding body_fits
returns-in-1 c = let a = c.args in
    ⊎_elim (λ e. laws.fits_at a.p.plan _ 1 a.n _ e refl) (λ e. laws.fits_at a.p.plan _ 5 a.n _ e refl) c.in-1.is

pub returns-in-2 : goal.returns-in-2
unfolding body_fits
returns-in-2 c = let a = c.args in
    laws.fits_at a.p.plan _ 2 a.n _ c.in-2.is refl

pub returns-in-3 : goal.returns-in-3
unfolding body_fits
returns-in-3 c = let a = c.args in
    laws.fits_at a.p.plan _ 3 a.n _ c.in-3.is (ap (λ (x : ℕ). eqb a.n x) c.record_length-r.ensures.0)

pub returns-in-4 : goal.returns-in-4
unfolding body_fits
returns-in-4 c = let a = c.args in
    ⊎_elim (λ e. laws.fits_at a.p.plan _ 4 a.n _ e refl) (λ e. laws.fits_at a.p.plan _ 6 a.n _ e refl) c.in-4.is

pub returns-else-n-r : goal.returns-else-n-r
unfolding body_fits
returns-else-n-r c = let a = c.args in
    laws.fits_at a.p.plan _ 7 a.n _ c.in-7.is (rw (ne_eqb _ _ (λ e. c.if-n-r.false (e ∙ sym c.record_length-r.ensures.0))))

pub returns-in_default : goal.returns-in_default
returns-in_default c = let none = c.in_default.in_default-own.rest in
    laws.fits_none _ _ _
    (λ e. none.0.0.0.0.1 (inl e)) none.0.0.0.1 none.0.0.1 (λ e. none.0.1 (inl e)) (λ e. none.0.0.0.0.1 (inr e)) (λ e. none.0.1 (inr e)) none.1
