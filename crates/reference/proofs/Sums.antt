-- The checksum of a book by which text its dialect sums. Assumes nothing.
use mathlib.Core.Path.{◌≡◌}
use Rattle.settings.specs.declared.Rules.{Rules}
use Rattle.settings.specs.declared.SumText.TheVariants.{Stripped, Interleaved}
use Rattle.crc32_spec.specs.Crc.{crc}
use Rattle.checksum.specs.Text.{k_checksum_text, m_checksum_text}
use Rattle.reference.specs.Reference.{Sides, checksum_text, checksum_of}

module _ (r : Rules) (s : Sides) where
  pub sum-stripped : r.text ≡ Stripped → crc (k_checksum_text r.summed s.bids s.asks) ≡ checksum_of r s
  unfolding checksum_of checksum_text
  sum-stripped h = rw h

  pub sum-interleaved : r.text ≡ Interleaved → crc (m_checksum_text r.summed s.bids s.asks) ≡ checksum_of r s
  unfolding checksum_of checksum_text
  sum-interleaved h = rw h
