-- What each call gives back in numbers: 0 or the refusal, then the handles, buffers and answer, then the medium record. Assumes nothing.
use Rattle.std.specs.Prelude.{ℕ, List, [], ◌∷◌}
use Rattle.store.specs.Reading.{StoreCall, mount_call, CountCall, free_count_call, FindCall, find_call, ListCall, list_call, ReaderCall, reader_call}
use Rattle.reader.specs.Calls.{NextCall, next_call, SeekCall, seek_call, record_call}
use Rattle.bridge.specs.Numbers.{code_of, medium_of, medium_words, store_of, store_words, reader_of, reader_words, found_words, item_words, number_words}

abbrev pub mount_words : StoreCall → ℕ × List ℕ × List ℕ × List ℕ
mount_words r = (code_of r.answer, store_words r.store, r.store.head.crcs, medium_words r.medium)

unfoldable pub mount_at : List ℕ → List ℕ → ℕ × List ℕ × List ℕ × List ℕ
mount_at vol m = mount_words (mount_call vol (medium_of m))

abbrev pub count_words : CountCall → ℕ × List ℕ × List ℕ
count_words r = (code_of r.answer, number_words r.answer, medium_words r.medium)

unfoldable pub free_count_at : List ℕ → List ℕ → List ℕ → List ℕ → ℕ × List ℕ × List ℕ
free_count_at vol m st crcs = count_words (free_count_call vol (medium_of m) (store_of st crcs))

abbrev pub find_words : FindCall → ℕ × List ℕ × List ℕ
find_words r = (code_of r.answer, found_words r.answer, medium_words r.medium)

unfoldable pub find_at : List ℕ → List ℕ → List ℕ → List ℕ → List ℕ → ℕ × List ℕ × List ℕ
find_at vol m st crcs name = find_words (find_call vol (medium_of m) (store_of st crcs) name)

abbrev pub list_words : ListCall → ℕ × List ℕ × List ℕ × List ℕ × List ℕ
list_words r = (code_of r.answer, r.made ∷ 0 ∷ 0 ∷ [], r.counts, r.rows, medium_words r.medium)

unfoldable pub list_at : List ℕ → List ℕ → List ℕ → List ℕ → List ℕ → List ℕ → List ℕ → ℕ × List ℕ × List ℕ × List ℕ × List ℕ
list_at vol m st crcs dir counts rows = list_words (list_call vol (medium_of m) (store_of st crcs) dir counts rows)

abbrev pub reader_words_of : ReaderCall → ℕ × List ℕ × List ℕ
reader_words_of r = (code_of r.answer, reader_words r.reader, medium_words r.medium)

unfoldable pub reader_at : List ℕ → List ℕ → List ℕ → List ℕ → List ℕ → ℕ × List ℕ × List ℕ
reader_at vol m st crcs name = reader_words_of (reader_call vol (medium_of m) (store_of st crcs) name)

abbrev pub next_words : NextCall → ℕ × List ℕ × List ℕ × List ℕ × List ℕ
next_words r = (code_of r.answer, item_words r.answer, reader_words r.reader, r.out, medium_words r.medium)

unfoldable pub next_at : List ℕ → List ℕ → List ℕ → List ℕ → List ℕ → List ℕ → ℕ × List ℕ × List ℕ × List ℕ × List ℕ
next_at vol m st crcs rd out = next_words (next_call vol (medium_of m) (store_of st crcs) (reader_of rd) out)

abbrev pub seek_words : SeekCall → ℕ × List ℕ × List ℕ
seek_words r = (code_of r.answer, reader_words r.reader, medium_words r.medium)

unfoldable pub seek_at : List ℕ → List ℕ → List ℕ → List ℕ → List ℕ → ℕ → ℕ × List ℕ × List ℕ
seek_at vol m st crcs rd number = seek_words (seek_call vol (medium_of m) (store_of st crcs) (reader_of rd) number)

unfoldable pub record_at : List ℕ → List ℕ → List ℕ → ℕ × List ℕ
record_at st crcs rd = (code_of (record_call (store_of st crcs) (reader_of rd)), number_words (record_call (store_of st crcs) (reader_of rd)))
