-- The marked examples hold.
use mathlib.Core.Path.{refl, ap, ◌∙◌}
use native.Mathlib.Omega.{arith}
use Rattle.generator.specs.Generator.{next_vector}
use Rattle.generator.proofs.Examples.{example_second, example_third, example_aes}
use Rattle.scramble.proofs.Examples.{key_one}
use Rattle.octets.specs.Lists.{all_zero}
use Rattle.octets.specs.Tests.{all_below, first_below}
use Rattle.ciphers.specs.Keys.{odd_octet, scramble_key, des_key, key_allowed}
use Rattle.ciphers.specs.Keystream.{feedback, stream}
use Rattle.keyentry.specs.Name.{no_name, name_right, text_octets, is_printable}
use Rattle.keyentry.specs.Entry.{in_range, lacks, ready_right, used_right, entry_right, is_for, complete_refusals}
use Rattle.keybook.specs.Book.{entry_of, apart, good_book, find_entry, book_refusals}
use Rattle.keybook.specs.Operations.{finish_refusals, finish_of}
use Rattle.voice.specs.Slot.{slot_on}
use Rattle.demands.specs.Marked.{Marked, finish_number}
use Rattle.demands.proofs.MarkedVoice.{openings, example_2, from_join, held_on, to_next, after_four, after-three}
use Rattle.demands.proofs.MarkedData.{example_3, example_10}

pub marked : Marked
unfolding stream feedback slot_on finish_number all_below first_below odd_octet scramble_key des_key key_allowed all_zero in_range lacks ready_right used_right entry_right is_for complete_refusals no_name name_right text_octets is_printable entry_of apart good_book find_entry book_refusals finish_refusals finish_of
marked =
    record {
      example_1 = key_one;
      example_2 = example_2;
      example_3 = example_3;
      example_4 = example_second;
      example_5 = ap next_vector example_second ∙ example_third;
      example_6 = example_aes;
      example_7 = λ key vector. (refl, refl);
      example_8 = refl;
      example_9 = refl;
      example_10 = example_10;
      example_11 = λ n low. (
        (openings n low).3,
        λ mask frame m l.
            (from_join n low mask frame m l, held_on n low 5 (omega arith) mask 1 (omega arith) refl frame m l, held_on n low 6 (omega arith) mask 2 (omega arith) refl frame m l, to_next n low mask frame m l),
        λ mask w l. (after_four n low mask w l, after-three n low mask w l),
      );
      example_12 = λ n low. ((openings n low).0, (openings n low).1, (openings n low).2);
    }
