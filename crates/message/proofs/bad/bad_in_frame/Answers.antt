-- `bad_in_frame` meets its contract: a message that another check refuses has none.
use Rattle.message.proofs.FirstBad.{frame-fails, frame-placed, frame-bad}
use mathlib.Core.Path.{refl, subst, sym}
use Rattle.settings.specs.Settings.{Config}
use Rattle.message.specs.Bad.{part_of, PartIs}
use Rattle.message.specs.Meaning.{framed, first_bad_of}
use Rattle.message.specs.declared.Part.{Part}
use Rattle.message.proofs.bad.bad_in_frame.Goals as goal

pub read_frame-requires : goal.read_frame-requires
read_frame-requires c = (c.requires, refl)

pub bad_in-requires : goal.bad_in-requires
bad_in-requires c =
    let b = c in
    let a = b.args in
    let f = c.read_frame in
    λ n. frame-placed (record { dialect = a.dialect; depth = a.depth; name = a.name.now }) a.s.now b.requires f.result f.ensures.told c.in-Ok.outline c.in-Ok.is c.form_of.result c.form_of.ensures n

pub returns-in-Err : goal.returns-in-Err
returns-in-Err c =
    let b = c in
    let a = b.args in
    let f = c.read_frame in
    frame-fails (record { dialect = a.dialect; depth = a.depth; name = a.name.now }) a.s.now b.requires f.result f.ensures.told c.in-Err.field-0 c.in-Err.is

pub returns-in-Ok : goal.returns-in-Ok
returns-in-Ok c =
    let b = c in
    let a = b.args in
    let t : Config = record { dialect = a.dialect; depth = a.depth; name = a.name.now } in
    let f = c.read_frame in
    subst (λ (x : Part). PartIs a.s.now (part_of (first_bad_of a.s.now (framed t a.s.now))) x) (sym c.bad_in.ensures)
    (frame-bad t a.s.now b.requires f.result f.ensures.told c.in-Ok.outline c.in-Ok.is c.form_of.result c.form_of.ensures)
