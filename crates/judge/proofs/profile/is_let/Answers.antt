-- `judge::profile::is_let` meets its contract: each test is one of the line's. Assumes nothing.
use Rattle.std.proofs.Common.{refl, eq-eqb, ne_eqb, le-leb}
use borrow.Author.Tests.{lt-leb}
use Rattle.judge.specs.Profile.{is_let}
use Rattle.judge.proofs.profile.is_let.Goals as goal

pub returns-then-line-class : goal.returns-then-line-class
unfolding is_let
returns-then-line-class c = simp (ne_eqb _ _ c.if-line-class.true)

pub returns-then-line-group : goal.returns-then-line-group
unfolding is_let
returns-then-line-group c = simp (eq-eqb _ _ c.if-line-class.false, ne_eqb _ _ c.if-line-group.true)

pub returns-then-subclass-line : goal.returns-then-subclass-line
unfolding is_let
returns-then-subclass-line c = simp (eq-eqb _ _ c.if-line-class.false, eq-eqb _ _ c.if-line-group.false, lt-leb _ _ c.if-subclass-line.true)

pub returns-then-line-subclass : goal.returns-then-line-subclass
unfolding is_let
returns-then-line-subclass c =
    simp (eq-eqb _ _ c.if-line-class.false, eq-eqb _ _ c.if-line-group.false, le-leb _ _ c.if-subclass-line.false, lt-leb _ _ c.if-line-subclass.true)

pub returns-then-version-line : goal.returns-then-version-line
unfolding is_let
returns-then-version-line c =
    simp (eq-eqb _ _ c.if-line-class.false, eq-eqb _ _ c.if-line-group.false, le-leb _ _ c.if-subclass-line.false, le-leb _ _ c.if-line-subclass.false, lt-leb _ _ c.if-version-line.true)

pub returns : goal.returns
unfolding is_let
returns c =
    rw (eq-eqb _ _ c.if-line-class.false, eq-eqb _ _ c.if-line-group.false, le-leb _ _ c.if-subclass-line.false, le-leb _ _ c.if-line-subclass.false, le-leb _ _ c.if-version-line.false) refl
