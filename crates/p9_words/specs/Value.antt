-- The values of fields, of the code's types.
use Rattle.p9_wire.specs.Stat.{stat_view}
use Rattle.p9_words.specs.declared.form.Width.TheVariants as width
use Rattle.p9_words.specs.declared.value.Value.{Value as CodeValue}
use Rattle.p9_words.specs.declared.value.Value.TheVariants as value
use Rattle.p9_words.specs.Words.{Value, NumberOf, OctalOf, TextOf, DataOf, QidOf, NamesOf, QidsOf}
use Rattle.p9_words.specs.Words.{StatOf}

-- a value, apart from where its bytes lie
abbrev pub value_view : CodeValue → Value
value_view (value.U8 n) = NumberOf width.U8 n
value_view (value.U16 n) = NumberOf width.U16 n
value_view (value.U32 n) = NumberOf width.U32 n
value_view (value.U64 n) = NumberOf width.U64 n
value_view (value.Octal n) = OctalOf n
value_view (value.Text s) = TextOf s.now
value_view (value.Data s) = DataOf s.now
value_view (value.Qid qid) = QidOf qid
value_view (value.Names names) = NamesOf names.now
value_view (value.Qids qids) = QidsOf qids.now
value_view (value.Stat stat) = StatOf (stat_view stat.now)
