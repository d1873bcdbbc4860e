-- The definitions of check 6, by what the tests say.
-- Assumes nothing.
use mathlib.Core.Path.{◌≡◌, sym}
use mathlib.Core.Bool.{Bool, true, false, ◌&&◌}
use Rattle.layout.specs.Scan.{no_outline}
use Rattle.message_k.specs.MembersK.{no_members, has_more, snapshot_by, update_by, outline_by}
use Rattle.message_k.specs.PartsK.{one_object, two_objects}
use Rattle.message_k.specs.declared.Members.{Members}

module _ (whole : Bool) (t : Members) where
  pub one-is : whole ≡ true → t.is_object ≡ true → outline_by (snapshot_by t) (update_by (has_more (no_members 0) t) (no_members 0) t) t ≡ one_object whole t
  unfolding one_object
  one-is h g = sym (rw (h, g, one_object))

  pub one-no-object : whole ≡ true → t.is_object ≡ false → no_outline ≡ one_object whole t
  unfolding one_object
  one-no-object h g = sym (rw (h, g, one_object))

  pub one-no-whole : whole ≡ false → no_outline ≡ one_object whole t
  unfolding one_object
  one-no-whole h = sym (rw (h, one_object))

  module _ (u : Members) where
    pub two_is : (whole && (t.is_object && u.is_object)) ≡ true
        → outline_by false (update_by (has_more (no_members 0) t && has_more t u) t u) u ≡ two_objects whole t u
    unfolding two_objects
    two_is h = sym (rw (h, two_objects))

    pub two-not : (whole && (t.is_object && u.is_object)) ≡ false → no_outline ≡ two_objects whole t u
    unfolding two_objects
    two-not h = sym (rw (h, two_objects))
