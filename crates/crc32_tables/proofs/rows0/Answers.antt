-- `crc32_tables::rows0` meets its contract: one computed test says that the table holds what it should, and each arm is its entry.
-- Written by tools/crc32_tables.py. Assumes nothing.
use mathlib.Core.Path.{◌≡◌}
use mathlib.Core.List.{List, [], ◌∷◌}
use Prim.Native.Nat.{ℕ, ◌<◌}
use lib.ListN.{get_or}
use Rattle.crc32_spec.specs.Crc.{bits, bit}
use Rattle.crc32_spec.specs.Rows.{entry_at}
use Rattle.crc32_spec.proofs.Rows.{tested, alike, rows, powers, span, double, last}
use Rattle.crc32_tables.proofs.rows0.Goals as goal

abbrev table : List ℕ
table =
    0 ∷ 1152921504623624192 ∷ 2305843009247248384 ∷ 3458764513870872576 ∷
    4611686018494496768 ∷ 5764607523118120960 ∷ 6917529027741745152 ∷ 8070450532365369344 ∷
    9223372036988993536 ∷ 10376293541612617728 ∷ 11529215046236241920 ∷ 12682136550859866112 ∷
    13835058055483490304 ∷ 14987979560107114496 ∷ 16140901064730738688 ∷ 17293822569354362880 ∷
    0 ∷ 4503599627436032 ∷ 9007199254872064 ∷ 13510798882308096 ∷
    18014398509744128 ∷ 22517998137180160 ∷ 27021597764616192 ∷ 31525197392052224 ∷
    36028797019488256 ∷ 40532396646924288 ∷ 45035996274360320 ∷ 49539595901796352 ∷
    54043195529232384 ∷ 58546795156668416 ∷ 63050394784104448 ∷ 67553994411540480 ∷
    0 ∷ 17592186044672 ∷ 35184372089344 ∷ 52776558134016 ∷
    70368744178688 ∷ 87960930223360 ∷ 105553116268032 ∷ 123145302312704 ∷
    140737488357376 ∷ 158329674402048 ∷ 175921860446720 ∷ 193514046491392 ∷
    211106232536064 ∷ 228698418580736 ∷ 246290604625408 ∷ 263882790670080 ∷
    0 ∷ 68719476737 ∷ 137438953474 ∷ 206158430211 ∷
    274877906948 ∷ 343597383685 ∷ 412316860422 ∷ 481036337159 ∷
    549755813896 ∷ 618475290633 ∷ 687194767370 ∷ 755914244107 ∷
    824633720844 ∷ 893353197581 ∷ 962072674318 ∷ 1030792151055 ∷
    0 ∷ 2141198171517694102 ∷ 4282396343035388204 ∷ 2799322161247506874 ∷
    8564792678207570969 ∷ 7740370494866257039 ∷ 5598644321275585845 ∷ 5766139403087156643 ∷
    17129585356415141938 ∷ 17298206616064932004 ∷ 15480740989732514078 ∷ 14655192078864275848 ∷
    11197288634882870315 ∷ 9715340631268752573 ∷ 11532278804747136263 ∷ 13672350248268144017 ∷
    0 ∷ 5386888243811397953 ∷ 10773776487622795906 ∷ 16088607136857019331 ∷
    17327967925862974724 ∷ 13455450929163138117 ∷ 7349148533391009670 ∷ 3404573942113998535 ∷
    4288438721446513160 ∷ 8160955847565032265 ∷ 12540199400559863946 ∷ 16484774120181258699 ∷
    14698297066782019340 ∷ 9311408969571270221 ∷ 6809147884227997070 ∷ 1494317380520123599 ∷
    0 ∷ 2028488383638170167 ∷ 4056976767276340334 ∷ 2624443614549687897 ∷
    8113953534552680668 ∷ 7835188785280959211 ∷ 5248887229099375794 ∷ 6120788061468956293 ∷
    16227907069105361336 ∷ 18236122657350302607 ∷ 15670377570561918422 ∷ 14222084018162495457 ∷
    10497774458198751588 ∷ 10198741311580312403 ∷ 12241576122937912586 ∷ 13097720953681233725 ∷
    0 ∷ 5771740740962772837 ∷ 11543481478579603595 ∷ 17306199363788582894 ∷
    11174653596834895703 ∷ 14631367953793085490 ∷ 4262365690237509596 ∷ 7728072080114530489 ∷
    17102901427752413423 ∷ 13637147768266444682 ∷ 5578580074568736868 ∷ 2121844801384056577 ∷
    8524731380475019192 ∷ 2762036542333180125 ∷ 15456144158705547059 ∷ 9684452956705067094 ∷
    0 ∷ 6980746008055523760 ∷ 13961492016111047520 ∷ 11610764201204677328 ∷
    6409563769353053888 ∷ 4040801764836937584 ∷ 11039016811638093216 ∷ 18001697843204643856 ∷
    12819127531281075137 ∷ 15061768953679340145 ∷ 8081603524186609825 ∷ 1208943908974768401 ∷
    16795586415964515585 ∷ 9940991776889291953 ∷ 2942196220379053665 ∷ 5202871832068265937 ∷
    0 ∷ 276411295284908965 ∷ 552822585051095307 ∷ 322578765179024046 ∷
    1105645170102190614 ∷ 904670433453642163 ∷ 645157529438511901 ∷ 802218806692098232 ∷
    2211290338949300845 ∷ 2118405152398332360 ∷ 1809340866907284326 ∷ 1930376785305268419 ∷
    1290315053693845627 ∷ 1314519132592280542 ∷ 1604437613384196464 ∷ 1554332420610110165 ∷
    0 ∷ 7484592042106358708 ∷ 14969184081170862377 ∷ 12133723593509444253 ∷
    4903141785973236755 ∷ 2582226934934548391 ∷ 10067318565139133754 ∷ 17035094476947144334 ∷
    9806283564620140135 ∷ 17278189972986807763 ∷ 5164453869869096782 ∷ 2338863130136237306 ∷
    14708087380760357492 ∷ 12376739797473386944 ∷ 261391397448285021 ∷ 7241289958672593129 ∷
    0 ∷ 8987831545535004830 ∷ 17975663085312345981 ∷ 9641454175997855715 ∷
    2998767252281102074 ∷ 6135859575290596964 ∷ 15054302907764509063 ∷ 12416584220502460697 ∷
    5997534503678319541 ∷ 3422934664506972971 ∷ 12271719150581193928 ∷ 15489803982702517334 ∷
    8837829621781042511 ∷ 440638203784140241 ∷ 9498132713027801650 ∷ 18404826613882557100 ∷
    0 ∷ 12448022423544730691 ∷ 9435466331697064070 ∷ 3328653608744729797 ∷
    16037884553195180300 ∷ 8237718644727432527 ∷ 6657307217489459594 ∷ 17339918311586098633 ∷
    7373800307343008280 ∷ 14597646604143146587 ∷ 16475437289454865054 ∷ 5216506051130924765 ∷
    13314614434978919188 ∷ 1443193922713020247 ∷ 4194682952627706770 ∷ 10878097019905888209 ∷
    0 ∷ 2859365650881735486 ∷ 5718731293801697341 ∷ 7562531380261272323 ∷
    11437462587603394682 ∷ 13336432044208147268 ∷ 15125062752850047047 ∷ 17746862698317749113 ∷
    16574663903839469812 ∷ 13955398408875617226 ∷ 12202515083512942793 ∷ 10301574278761479159 ∷
    8700689090195808398 ∷ 6850414056029719472 ∷ 4026795796321611955 ∷ 1174468195638795149 ∷
    0 ∷ 12607480586275053504 ∷ 9699785852513466817 ∷ 2912222695261365761 ∷
    15440619839694664578 ∷ 8700634678716509250 ∷ 5824445389263456835 ∷ 18312290239164126595 ∷
    8638244520422793541 ∷ 15643237175842913925 ∷ 17401269357433018500 ∷ 6884735557061150532 ∷
    11648890770887971527 ∷ 1107859926628453639 ∷ 2825344280283196166 ∷ 9926891719691400390 ∷
    0 ∷ 871708197095033967 ∷ 1743416392930795167 ∷ 1452751747618362096 ∷
    3486832777985670015 ∷ 4358176074558043920 ∷ 2905503495236724192 ∷ 2615045420570175887 ∷
    6973665555971340030 ∷ 7845132135318502033 ∷ 8716352147923920993 ∷ 8425770790549627918 ∷
    5811006982530420097 ∷ 6682275237501796846 ∷ 5230090841140351774 ∷ 4939866137884401521 ∷
    0 ∷ 12972520710614735237 ∷ 12933858697110402379 ∷ 538722419750890702 ∷
    13658733411743394454 ∷ 687422852087919379 ∷ 1077444835832881117 ∷ 13471529293854213720 ∷
    11559092175824474989 ∷ 1471977571986246376 ∷ 1374845704175838758 ∷ 12039186375623950243 ∷
    2154889668862851579 ∷ 12240804017683062910 ∷ 12581367727243267248 ∷ 1918068979863180597 ∷
    0 ∷ 7400043574912344438 ∷ 14800087148336694445 ∷ 12382159767473300955 ∷
    4736089098046705435 ∷ 2813566269618613869 ∷ 10150426545592880054 ∷ 16892917837932112576 ∷
    9472178196093410870 ∷ 16555746314954407744 ∷ 5627132538313497243 ∷ 2928935519858998253 ∷
    14036057659257753901 ∷ 11851262550391550043 ∷ 1129946984927155584 ∷ 7574030547112211702 ∷
    0 ∷ 4927676107068267496 ∷ 9855352210723352977 ∷ 14746933424161647225 ∷
    14626419993940354403 ∷ 10275494929086529163 ∷ 4773329496906061042 ∷ 458481696954715930 ∷
    5658756146245782663 ∷ 785156805795911535 ∷ 14286207628010814742 ∷ 9376583943634331390 ∷
    9546658993812122084 ∷ 13843524887455363596 ∷ 916963392692099189 ∷ 5249836070321308573 ∷
    0 ∷ 16584293004066984337 ∷ 1675193365481661795 ∷ 17372712404542600434 ∷
    3350386729972485255 ∷ 14436790414387830038 ∷ 4125734346010225124 ∷ 16097750842298988661 ∷
    6700773454755635023 ∷ 13464306491913342686 ∷ 5459091217586567724 ∷ 12530606356490300349 ∷
    8251468692020450248 ∷ 10710727114355262041 ∷ 7330840341035284139 ∷ 9483277814756697914 ∷
    0 ∷ 1680292900411722563 ∷ 3360585799832473799 ∷ 4175588402237430660 ∷
    6721171594473383887 ∷ 5339013552716835980 ∷ 8351176804474861320 ∷ 7256651893463743563 ∷
    13442343188946767774 ∷ 12528260539957544157 ∷ 10678027098065264473 ∷ 9475116698937463834 ∷
    16702353605840627793 ∷ 17337512080558695186 ∷ 14513303786927487126 ∷ 16012554641724290005 ∷
    0 ∷ 3360631009112667873 ∷ 6721262010292792195 ∷ 8351331948412984674 ∷
    13442524020585584390 ∷ 10677520664291336679 ∷ 16702663889199611013 ∷ 14513012839937870436 ∷
    12568392627223899660 ∷ 9279872202650622189 ∷ 17522765839781447055 ∷ 15964700658206471022 ∷
    1506057018999929098 ∷ 4198985402476646379 ∷ 5305291836647871113 ∷ 7422902822586262632 ∷
    0 ∷ 1387736552941191256 ∷ 2775473100596446961 ∷ 3874869323383604905 ∷
    5550946201192893922 ∷ 6794479529919942074 ∷ 7749738643934939923 ∷ 8705072384299666251 ∷
    11101892394715520389 ∷ 9895502785678646749 ∷ 13588959059839884148 ∷ 12670760241738521388 ∷
    15499477286344265831 ∷ 14148919637540835391 ∷ 17410144768599332502 ∷ 16347918652506347214 ∷
    0 ∷ 16196821286987971398 ∷ 1944517150694602380 ∷ 18031000236065377738 ∷
    3889034295908363097 ∷ 15365731293036466207 ∷ 3388096829251100117 ∷ 14970628411188618899 ∷
    7778068591816726194 ∷ 10031745123051433460 ∷ 8146185062133899326 ∷ 10505696173882514296 ∷
    6776193657611894251 ∷ 13749290786960246445 ∷ 4969071488808799079 ∷ 11831830420836544545 ∷
    0 ∷ 5468516655038104478 ∷ 10937033308550463869 ∷ 15865116285862839011 ∷
    17645470512815080635 ∷ 13764512416654395173 ∷ 7145356813234144710 ∷ 2940141120046728792 ∷
    3653437046769453430 ∷ 8743614774151514856 ∷ 11924327280055552011 ∷ 17194649469433187221 ∷
    14290713619129372109 ∷ 10211563329241058899 ∷ 5880282240093457584 ∷ 1909217718600830766 ∷
    0 ∷ 12247339355079206080 ∷ 9844748677448518016 ∷ 2407412054651088192 ∷
    14577628383004431104 ∷ 7185890705960204224 ∷ 4814824109302176384 ∷ 16944506923508121152 ∷
    5759331858898953728 ∷ 16580577685557428928 ∷ 14371781411920408448 ∷ 7963940074217507648 ∷
    9629648218604352768 ∷ 3194222333783626176 ∷ 953901979182201984 ∷ 11874789948061784128 ∷
    0 ∷ 104293404966644436 ∷ 208586808703243241 ∷ 258828148729526589 ∷
    417173609440387475 ∷ 340197129394801479 ∷ 517656297459053178 ∷ 458685346515359918 ∷
    834347218880774950 ∷ 785513288708041202 ∷ 680394257561784527 ∷ 577508262452951579 ∷
    1035312586954236597 ∷ 1093439147925178465 ∷ 917370693030719836 ∷ 993502783099427720 ∷
    0 ∷ 9181572167461332263 ∷ 18363144334233816079 ∷ 9348770544912083240 ∷
    2800388725375671903 ∷ 6464782613170355064 ∷ 15567260352021090896 ∷ 12061057557210871671 ∷
    5600777450751343806 ∷ 3662141554667575705 ∷ 12929565218739515569 ∷ 14701002822583031190 ∷
    7738608988296291041 ∷ 1445216647373572038 ∷ 10787231225101709038 ∷ 16922432387140619209 ∷
    0 ∷ 6347585555979276302 ∷ 12695171108826392157 ∷ 16733522104601654867 ∷
    13487607957017152251 ∷ 16373606753565596405 ∷ 793712316047387814 ∷ 5986676212080114856 ∷
    12477840363191243703 ∷ 17671305653622145977 ∷ 2090936244886156778 ∷ 4977418774927255012 ∷
    1587424632094775628 ∷ 5625151122260707650 ∷ 11973352418442280721 ∷ 18320295807906705183 ∷
    0 ∷ 12272972509369706135 ∷ 10364384392075955055 ∷ 2704389353846074872 ∷
    14184763377092695774 ∷ 7964682305992732745 ∷ 5408778700632022449 ∷ 16239290771654802214 ∷
    5964393215341178300 ∷ 17912948219549354795 ∷ 15929364606169081555 ∷ 8593470409456664644 ∷
    10817557401264044898 ∷ 4345397894017195509 ∷ 1858332522848972813 ∷ 12941169316328003226 ∷
    0 ∷ 6806253320278907713 ∷ 13612506640557815426 ∷ 16329487098586607043 ∷
    11719398763662502725 ∷ 18219031092693659652 ∷ 2182835969354980807 ∷ 4629233033542977158 ∷
    11400387930490066570 ∷ 13853911650338262475 ∷ 2512734543624724488 ∷ 8983464734784682825 ∷
    4365671935137529295 ∷ 7125064234535200398 ∷ 9258466062139886413 ∷ 15999044827628408844 ∷
    0 ∷ 1972525853123673373 ∷ 3945051706247346746 ∷ 3305767951899952935 ∷
    7890103412494693492 ∷ 8511968841073559913 ∷ 6611535903799905870 ∷ 4656499020066845523 ∷
    15780206824989386984 ∷ 13952537917975565813 ∷ 17023937682147119826 ∷ 17806948084650995663 ∷
    13223071807599811740 ∷ 12456420076533178753 ∷ 9312998040133691046 ∷ 11124378919332355003 ∷
    []

arm : (i k : ℕ) → i < 512 → i ≡ k → get_or table k 0 ≡ entry_at 0 i
unfolding table bits bit alike rows powers span double
arm = tested table 0 tt

pub returns-in-0 : goal.returns-in-0
returns-in-0 c = arm c.args.key 0 c.requires c.in-0.is

pub returns-in-1 : goal.returns-in-1
returns-in-1 c = arm c.args.key 1 c.requires c.in-1.is

pub returns-in-2 : goal.returns-in-2
returns-in-2 c = arm c.args.key 2 c.requires c.in-2.is

pub returns-in-3 : goal.returns-in-3
returns-in-3 c = arm c.args.key 3 c.requires c.in-3.is

pub returns-in-4 : goal.returns-in-4
returns-in-4 c = arm c.args.key 4 c.requires c.in-4.is

pub returns-in-5 : goal.returns-in-5
returns-in-5 c = arm c.args.key 5 c.requires c.in-5.is

pub returns-in-6 : goal.returns-in-6
returns-in-6 c = arm c.args.key 6 c.requires c.in-6.is

pub returns-in-7 : goal.returns-in-7
returns-in-7 c = arm c.args.key 7 c.requires c.in-7.is

pub returns-in-8 : goal.returns-in-8
returns-in-8 c = arm c.args.key 8 c.requires c.in-8.is

pub returns-in-9 : goal.returns-in-9
returns-in-9 c = arm c.args.key 9 c.requires c.in-9.is

pub returns-in-10 : goal.returns-in-10
returns-in-10 c = arm c.args.key 10 c.requires c.in-10.is

pub returns-in-11 : goal.returns-in-11
returns-in-11 c = arm c.args.key 11 c.requires c.in-11.is

pub returns-in-12 : goal.returns-in-12
returns-in-12 c = arm c.args.key 12 c.requires c.in-12.is

pub returns-in-13 : goal.returns-in-13
returns-in-13 c = arm c.args.key 13 c.requires c.in-13.is

pub returns-in-14 : goal.returns-in-14
returns-in-14 c = arm c.args.key 14 c.requires c.in-14.is

pub returns-in-15 : goal.returns-in-15
returns-in-15 c = arm c.args.key 15 c.requires c.in-15.is

pub returns-in-16 : goal.returns-in-16
returns-in-16 c = arm c.args.key 16 c.requires c.in-16.is

pub returns-in-17 : goal.returns-in-17
returns-in-17 c = arm c.args.key 17 c.requires c.in-17.is

pub returns-in-18 : goal.returns-in-18
returns-in-18 c = arm c.args.key 18 c.requires c.in-18.is

pub returns-in-19 : goal.returns-in-19
returns-in-19 c = arm c.args.key 19 c.requires c.in-19.is

pub returns-in-20 : goal.returns-in-20
returns-in-20 c = arm c.args.key 20 c.requires c.in-20.is

pub returns-in-21 : goal.returns-in-21
returns-in-21 c = arm c.args.key 21 c.requires c.in-21.is

pub returns-in-22 : goal.returns-in-22
returns-in-22 c = arm c.args.key 22 c.requires c.in-22.is

pub returns-in-23 : goal.returns-in-23
returns-in-23 c = arm c.args.key 23 c.requires c.in-23.is

pub returns-in-24 : goal.returns-in-24
returns-in-24 c = arm c.args.key 24 c.requires c.in-24.is

pub returns-in-25 : goal.returns-in-25
returns-in-25 c = arm c.args.key 25 c.requires c.in-25.is

pub returns-in-26 : goal.returns-in-26
returns-in-26 c = arm c.args.key 26 c.requires c.in-26.is

pub returns-in-27 : goal.returns-in-27
returns-in-27 c = arm c.args.key 27 c.requires c.in-27.is

pub returns-in-28 : goal.returns-in-28
returns-in-28 c = arm c.args.key 28 c.requires c.in-28.is

pub returns-in-29 : goal.returns-in-29
returns-in-29 c = arm c.args.key 29 c.requires c.in-29.is

pub returns-in-30 : goal.returns-in-30
returns-in-30 c = arm c.args.key 30 c.requires c.in-30.is

pub returns-in-31 : goal.returns-in-31
returns-in-31 c = arm c.args.key 31 c.requires c.in-31.is

pub returns-in-32 : goal.returns-in-32
returns-in-32 c = arm c.args.key 32 c.requires c.in-32.is

pub returns-in-33 : goal.returns-in-33
returns-in-33 c = arm c.args.key 33 c.requires c.in-33.is

pub returns-in-34 : goal.returns-in-34
returns-in-34 c = arm c.args.key 34 c.requires c.in-34.is

pub returns-in-35 : goal.returns-in-35
returns-in-35 c = arm c.args.key 35 c.requires c.in-35.is

pub returns-in-36 : goal.returns-in-36
returns-in-36 c = arm c.args.key 36 c.requires c.in-36.is

pub returns-in-37 : goal.returns-in-37
returns-in-37 c = arm c.args.key 37 c.requires c.in-37.is

pub returns-in-38 : goal.returns-in-38
returns-in-38 c = arm c.args.key 38 c.requires c.in-38.is

pub returns-in-39 : goal.returns-in-39
returns-in-39 c = arm c.args.key 39 c.requires c.in-39.is

pub returns-in-40 : goal.returns-in-40
returns-in-40 c = arm c.args.key 40 c.requires c.in-40.is

pub returns-in-41 : goal.returns-in-41
returns-in-41 c = arm c.args.key 41 c.requires c.in-41.is

pub returns-in-42 : goal.returns-in-42
returns-in-42 c = arm c.args.key 42 c.requires c.in-42.is

pub returns-in-43 : goal.returns-in-43
returns-in-43 c = arm c.args.key 43 c.requires c.in-43.is

pub returns-in-44 : goal.returns-in-44
returns-in-44 c = arm c.args.key 44 c.requires c.in-44.is

pub returns-in-45 : goal.returns-in-45
returns-in-45 c = arm c.args.key 45 c.requires c.in-45.is

pub returns-in-46 : goal.returns-in-46
returns-in-46 c = arm c.args.key 46 c.requires c.in-46.is

pub returns-in-47 : goal.returns-in-47
returns-in-47 c = arm c.args.key 47 c.requires c.in-47.is

pub returns-in-48 : goal.returns-in-48
returns-in-48 c = arm c.args.key 48 c.requires c.in-48.is

pub returns-in-49 : goal.returns-in-49
returns-in-49 c = arm c.args.key 49 c.requires c.in-49.is

pub returns-in-50 : goal.returns-in-50
returns-in-50 c = arm c.args.key 50 c.requires c.in-50.is

pub returns-in-51 : goal.returns-in-51
returns-in-51 c = arm c.args.key 51 c.requires c.in-51.is

pub returns-in-52 : goal.returns-in-52
returns-in-52 c = arm c.args.key 52 c.requires c.in-52.is

pub returns-in-53 : goal.returns-in-53
returns-in-53 c = arm c.args.key 53 c.requires c.in-53.is

pub returns-in-54 : goal.returns-in-54
returns-in-54 c = arm c.args.key 54 c.requires c.in-54.is

pub returns-in-55 : goal.returns-in-55
returns-in-55 c = arm c.args.key 55 c.requires c.in-55.is

pub returns-in-56 : goal.returns-in-56
returns-in-56 c = arm c.args.key 56 c.requires c.in-56.is

pub returns-in-57 : goal.returns-in-57
returns-in-57 c = arm c.args.key 57 c.requires c.in-57.is

pub returns-in-58 : goal.returns-in-58
returns-in-58 c = arm c.args.key 58 c.requires c.in-58.is

pub returns-in-59 : goal.returns-in-59
returns-in-59 c = arm c.args.key 59 c.requires c.in-59.is

pub returns-in-60 : goal.returns-in-60
returns-in-60 c = arm c.args.key 60 c.requires c.in-60.is

pub returns-in-61 : goal.returns-in-61
returns-in-61 c = arm c.args.key 61 c.requires c.in-61.is

pub returns-in-62 : goal.returns-in-62
returns-in-62 c = arm c.args.key 62 c.requires c.in-62.is

pub returns-in-63 : goal.returns-in-63
returns-in-63 c = arm c.args.key 63 c.requires c.in-63.is

pub returns-in-64 : goal.returns-in-64
returns-in-64 c = arm c.args.key 64 c.requires c.in-64.is

pub returns-in-65 : goal.returns-in-65
returns-in-65 c = arm c.args.key 65 c.requires c.in-65.is

pub returns-in-66 : goal.returns-in-66
returns-in-66 c = arm c.args.key 66 c.requires c.in-66.is

pub returns-in-67 : goal.returns-in-67
returns-in-67 c = arm c.args.key 67 c.requires c.in-67.is

pub returns-in-68 : goal.returns-in-68
returns-in-68 c = arm c.args.key 68 c.requires c.in-68.is

pub returns-in-69 : goal.returns-in-69
returns-in-69 c = arm c.args.key 69 c.requires c.in-69.is

pub returns-in-70 : goal.returns-in-70
returns-in-70 c = arm c.args.key 70 c.requires c.in-70.is

pub returns-in-71 : goal.returns-in-71
returns-in-71 c = arm c.args.key 71 c.requires c.in-71.is

pub returns-in-72 : goal.returns-in-72
returns-in-72 c = arm c.args.key 72 c.requires c.in-72.is

pub returns-in-73 : goal.returns-in-73
returns-in-73 c = arm c.args.key 73 c.requires c.in-73.is

pub returns-in-74 : goal.returns-in-74
returns-in-74 c = arm c.args.key 74 c.requires c.in-74.is

pub returns-in-75 : goal.returns-in-75
returns-in-75 c = arm c.args.key 75 c.requires c.in-75.is

pub returns-in-76 : goal.returns-in-76
returns-in-76 c = arm c.args.key 76 c.requires c.in-76.is

pub returns-in-77 : goal.returns-in-77
returns-in-77 c = arm c.args.key 77 c.requires c.in-77.is

pub returns-in-78 : goal.returns-in-78
returns-in-78 c = arm c.args.key 78 c.requires c.in-78.is

pub returns-in-79 : goal.returns-in-79
returns-in-79 c = arm c.args.key 79 c.requires c.in-79.is

pub returns-in-80 : goal.returns-in-80
returns-in-80 c = arm c.args.key 80 c.requires c.in-80.is

pub returns-in-81 : goal.returns-in-81
returns-in-81 c = arm c.args.key 81 c.requires c.in-81.is

pub returns-in-82 : goal.returns-in-82
returns-in-82 c = arm c.args.key 82 c.requires c.in-82.is

pub returns-in-83 : goal.returns-in-83
returns-in-83 c = arm c.args.key 83 c.requires c.in-83.is

pub returns-in-84 : goal.returns-in-84
returns-in-84 c = arm c.args.key 84 c.requires c.in-84.is

pub returns-in-85 : goal.returns-in-85
returns-in-85 c = arm c.args.key 85 c.requires c.in-85.is

pub returns-in-86 : goal.returns-in-86
returns-in-86 c = arm c.args.key 86 c.requires c.in-86.is

pub returns-in-87 : goal.returns-in-87
returns-in-87 c = arm c.args.key 87 c.requires c.in-87.is

pub returns-in-88 : goal.returns-in-88
returns-in-88 c = arm c.args.key 88 c.requires c.in-88.is

pub returns-in-89 : goal.returns-in-89
returns-in-89 c = arm c.args.key 89 c.requires c.in-89.is

pub returns-in-90 : goal.returns-in-90
returns-in-90 c = arm c.args.key 90 c.requires c.in-90.is

pub returns-in-91 : goal.returns-in-91
returns-in-91 c = arm c.args.key 91 c.requires c.in-91.is

pub returns-in-92 : goal.returns-in-92
returns-in-92 c = arm c.args.key 92 c.requires c.in-92.is

pub returns-in-93 : goal.returns-in-93
returns-in-93 c = arm c.args.key 93 c.requires c.in-93.is

pub returns-in-94 : goal.returns-in-94
returns-in-94 c = arm c.args.key 94 c.requires c.in-94.is

pub returns-in-95 : goal.returns-in-95
returns-in-95 c = arm c.args.key 95 c.requires c.in-95.is

pub returns-in-96 : goal.returns-in-96
returns-in-96 c = arm c.args.key 96 c.requires c.in-96.is

pub returns-in-97 : goal.returns-in-97
returns-in-97 c = arm c.args.key 97 c.requires c.in-97.is

pub returns-in-98 : goal.returns-in-98
returns-in-98 c = arm c.args.key 98 c.requires c.in-98.is

pub returns-in-99 : goal.returns-in-99
returns-in-99 c = arm c.args.key 99 c.requires c.in-99.is

pub returns-in-100 : goal.returns-in-100
returns-in-100 c = arm c.args.key 100 c.requires c.in-100.is

pub returns-in-101 : goal.returns-in-101
returns-in-101 c = arm c.args.key 101 c.requires c.in-101.is

pub returns-in-102 : goal.returns-in-102
returns-in-102 c = arm c.args.key 102 c.requires c.in-102.is

pub returns-in-103 : goal.returns-in-103
returns-in-103 c = arm c.args.key 103 c.requires c.in-103.is

pub returns-in-104 : goal.returns-in-104
returns-in-104 c = arm c.args.key 104 c.requires c.in-104.is

pub returns-in-105 : goal.returns-in-105
returns-in-105 c = arm c.args.key 105 c.requires c.in-105.is

pub returns-in-106 : goal.returns-in-106
returns-in-106 c = arm c.args.key 106 c.requires c.in-106.is

pub returns-in-107 : goal.returns-in-107
returns-in-107 c = arm c.args.key 107 c.requires c.in-107.is

pub returns-in-108 : goal.returns-in-108
returns-in-108 c = arm c.args.key 108 c.requires c.in-108.is

pub returns-in-109 : goal.returns-in-109
returns-in-109 c = arm c.args.key 109 c.requires c.in-109.is

pub returns-in-110 : goal.returns-in-110
returns-in-110 c = arm c.args.key 110 c.requires c.in-110.is

pub returns-in-111 : goal.returns-in-111
returns-in-111 c = arm c.args.key 111 c.requires c.in-111.is

pub returns-in-112 : goal.returns-in-112
returns-in-112 c = arm c.args.key 112 c.requires c.in-112.is

pub returns-in-113 : goal.returns-in-113
returns-in-113 c = arm c.args.key 113 c.requires c.in-113.is

pub returns-in-114 : goal.returns-in-114
returns-in-114 c = arm c.args.key 114 c.requires c.in-114.is

pub returns-in-115 : goal.returns-in-115
returns-in-115 c = arm c.args.key 115 c.requires c.in-115.is

pub returns-in-116 : goal.returns-in-116
returns-in-116 c = arm c.args.key 116 c.requires c.in-116.is

pub returns-in-117 : goal.returns-in-117
returns-in-117 c = arm c.args.key 117 c.requires c.in-117.is

pub returns-in-118 : goal.returns-in-118
returns-in-118 c = arm c.args.key 118 c.requires c.in-118.is

pub returns-in-119 : goal.returns-in-119
returns-in-119 c = arm c.args.key 119 c.requires c.in-119.is

pub returns-in-120 : goal.returns-in-120
returns-in-120 c = arm c.args.key 120 c.requires c.in-120.is

pub returns-in-121 : goal.returns-in-121
returns-in-121 c = arm c.args.key 121 c.requires c.in-121.is

pub returns-in-122 : goal.returns-in-122
returns-in-122 c = arm c.args.key 122 c.requires c.in-122.is

pub returns-in-123 : goal.returns-in-123
returns-in-123 c = arm c.args.key 123 c.requires c.in-123.is

pub returns-in-124 : goal.returns-in-124
returns-in-124 c = arm c.args.key 124 c.requires c.in-124.is

pub returns-in-125 : goal.returns-in-125
returns-in-125 c = arm c.args.key 125 c.requires c.in-125.is

pub returns-in-126 : goal.returns-in-126
returns-in-126 c = arm c.args.key 126 c.requires c.in-126.is

pub returns-in-127 : goal.returns-in-127
returns-in-127 c = arm c.args.key 127 c.requires c.in-127.is

pub returns-in-128 : goal.returns-in-128
returns-in-128 c = arm c.args.key 128 c.requires c.in-128.is

pub returns-in-129 : goal.returns-in-129
returns-in-129 c = arm c.args.key 129 c.requires c.in-129.is

pub returns-in-130 : goal.returns-in-130
returns-in-130 c = arm c.args.key 130 c.requires c.in-130.is

pub returns-in-131 : goal.returns-in-131
returns-in-131 c = arm c.args.key 131 c.requires c.in-131.is

pub returns-in-132 : goal.returns-in-132
returns-in-132 c = arm c.args.key 132 c.requires c.in-132.is

pub returns-in-133 : goal.returns-in-133
returns-in-133 c = arm c.args.key 133 c.requires c.in-133.is

pub returns-in-134 : goal.returns-in-134
returns-in-134 c = arm c.args.key 134 c.requires c.in-134.is

pub returns-in-135 : goal.returns-in-135
returns-in-135 c = arm c.args.key 135 c.requires c.in-135.is

pub returns-in-136 : goal.returns-in-136
returns-in-136 c = arm c.args.key 136 c.requires c.in-136.is

pub returns-in-137 : goal.returns-in-137
returns-in-137 c = arm c.args.key 137 c.requires c.in-137.is

pub returns-in-138 : goal.returns-in-138
returns-in-138 c = arm c.args.key 138 c.requires c.in-138.is

pub returns-in-139 : goal.returns-in-139
returns-in-139 c = arm c.args.key 139 c.requires c.in-139.is

pub returns-in-140 : goal.returns-in-140
returns-in-140 c = arm c.args.key 140 c.requires c.in-140.is

pub returns-in-141 : goal.returns-in-141
returns-in-141 c = arm c.args.key 141 c.requires c.in-141.is

pub returns-in-142 : goal.returns-in-142
returns-in-142 c = arm c.args.key 142 c.requires c.in-142.is

pub returns-in-143 : goal.returns-in-143
returns-in-143 c = arm c.args.key 143 c.requires c.in-143.is

pub returns-in-144 : goal.returns-in-144
returns-in-144 c = arm c.args.key 144 c.requires c.in-144.is

pub returns-in-145 : goal.returns-in-145
returns-in-145 c = arm c.args.key 145 c.requires c.in-145.is

pub returns-in-146 : goal.returns-in-146
returns-in-146 c = arm c.args.key 146 c.requires c.in-146.is

pub returns-in-147 : goal.returns-in-147
returns-in-147 c = arm c.args.key 147 c.requires c.in-147.is

pub returns-in-148 : goal.returns-in-148
returns-in-148 c = arm c.args.key 148 c.requires c.in-148.is

pub returns-in-149 : goal.returns-in-149
returns-in-149 c = arm c.args.key 149 c.requires c.in-149.is

pub returns-in-150 : goal.returns-in-150
returns-in-150 c = arm c.args.key 150 c.requires c.in-150.is

pub returns-in-151 : goal.returns-in-151
returns-in-151 c = arm c.args.key 151 c.requires c.in-151.is

pub returns-in-152 : goal.returns-in-152
returns-in-152 c = arm c.args.key 152 c.requires c.in-152.is

pub returns-in-153 : goal.returns-in-153
returns-in-153 c = arm c.args.key 153 c.requires c.in-153.is

pub returns-in-154 : goal.returns-in-154
returns-in-154 c = arm c.args.key 154 c.requires c.in-154.is

pub returns-in-155 : goal.returns-in-155
returns-in-155 c = arm c.args.key 155 c.requires c.in-155.is

pub returns-in-156 : goal.returns-in-156
returns-in-156 c = arm c.args.key 156 c.requires c.in-156.is

pub returns-in-157 : goal.returns-in-157
returns-in-157 c = arm c.args.key 157 c.requires c.in-157.is

pub returns-in-158 : goal.returns-in-158
returns-in-158 c = arm c.args.key 158 c.requires c.in-158.is

pub returns-in-159 : goal.returns-in-159
returns-in-159 c = arm c.args.key 159 c.requires c.in-159.is

pub returns-in-160 : goal.returns-in-160
returns-in-160 c = arm c.args.key 160 c.requires c.in-160.is

pub returns-in-161 : goal.returns-in-161
returns-in-161 c = arm c.args.key 161 c.requires c.in-161.is

pub returns-in-162 : goal.returns-in-162
returns-in-162 c = arm c.args.key 162 c.requires c.in-162.is

pub returns-in-163 : goal.returns-in-163
returns-in-163 c = arm c.args.key 163 c.requires c.in-163.is

pub returns-in-164 : goal.returns-in-164
returns-in-164 c = arm c.args.key 164 c.requires c.in-164.is

pub returns-in-165 : goal.returns-in-165
returns-in-165 c = arm c.args.key 165 c.requires c.in-165.is

pub returns-in-166 : goal.returns-in-166
returns-in-166 c = arm c.args.key 166 c.requires c.in-166.is

pub returns-in-167 : goal.returns-in-167
returns-in-167 c = arm c.args.key 167 c.requires c.in-167.is

pub returns-in-168 : goal.returns-in-168
returns-in-168 c = arm c.args.key 168 c.requires c.in-168.is

pub returns-in-169 : goal.returns-in-169
returns-in-169 c = arm c.args.key 169 c.requires c.in-169.is

pub returns-in-170 : goal.returns-in-170
returns-in-170 c = arm c.args.key 170 c.requires c.in-170.is

pub returns-in-171 : goal.returns-in-171
returns-in-171 c = arm c.args.key 171 c.requires c.in-171.is

pub returns-in-172 : goal.returns-in-172
returns-in-172 c = arm c.args.key 172 c.requires c.in-172.is

pub returns-in-173 : goal.returns-in-173
returns-in-173 c = arm c.args.key 173 c.requires c.in-173.is

pub returns-in-174 : goal.returns-in-174
returns-in-174 c = arm c.args.key 174 c.requires c.in-174.is

pub returns-in-175 : goal.returns-in-175
returns-in-175 c = arm c.args.key 175 c.requires c.in-175.is

pub returns-in-176 : goal.returns-in-176
returns-in-176 c = arm c.args.key 176 c.requires c.in-176.is

pub returns-in-177 : goal.returns-in-177
returns-in-177 c = arm c.args.key 177 c.requires c.in-177.is

pub returns-in-178 : goal.returns-in-178
returns-in-178 c = arm c.args.key 178 c.requires c.in-178.is

pub returns-in-179 : goal.returns-in-179
returns-in-179 c = arm c.args.key 179 c.requires c.in-179.is

pub returns-in-180 : goal.returns-in-180
returns-in-180 c = arm c.args.key 180 c.requires c.in-180.is

pub returns-in-181 : goal.returns-in-181
returns-in-181 c = arm c.args.key 181 c.requires c.in-181.is

pub returns-in-182 : goal.returns-in-182
returns-in-182 c = arm c.args.key 182 c.requires c.in-182.is

pub returns-in-183 : goal.returns-in-183
returns-in-183 c = arm c.args.key 183 c.requires c.in-183.is

pub returns-in-184 : goal.returns-in-184
returns-in-184 c = arm c.args.key 184 c.requires c.in-184.is

pub returns-in-185 : goal.returns-in-185
returns-in-185 c = arm c.args.key 185 c.requires c.in-185.is

pub returns-in-186 : goal.returns-in-186
returns-in-186 c = arm c.args.key 186 c.requires c.in-186.is

pub returns-in-187 : goal.returns-in-187
returns-in-187 c = arm c.args.key 187 c.requires c.in-187.is

pub returns-in-188 : goal.returns-in-188
returns-in-188 c = arm c.args.key 188 c.requires c.in-188.is

pub returns-in-189 : goal.returns-in-189
returns-in-189 c = arm c.args.key 189 c.requires c.in-189.is

pub returns-in-190 : goal.returns-in-190
returns-in-190 c = arm c.args.key 190 c.requires c.in-190.is

pub returns-in-191 : goal.returns-in-191
returns-in-191 c = arm c.args.key 191 c.requires c.in-191.is

pub returns-in-192 : goal.returns-in-192
returns-in-192 c = arm c.args.key 192 c.requires c.in-192.is

pub returns-in-193 : goal.returns-in-193
returns-in-193 c = arm c.args.key 193 c.requires c.in-193.is

pub returns-in-194 : goal.returns-in-194
returns-in-194 c = arm c.args.key 194 c.requires c.in-194.is

pub returns-in-195 : goal.returns-in-195
returns-in-195 c = arm c.args.key 195 c.requires c.in-195.is

pub returns-in-196 : goal.returns-in-196
returns-in-196 c = arm c.args.key 196 c.requires c.in-196.is

pub returns-in-197 : goal.returns-in-197
returns-in-197 c = arm c.args.key 197 c.requires c.in-197.is

pub returns-in-198 : goal.returns-in-198
returns-in-198 c = arm c.args.key 198 c.requires c.in-198.is

pub returns-in-199 : goal.returns-in-199
returns-in-199 c = arm c.args.key 199 c.requires c.in-199.is

pub returns-in-200 : goal.returns-in-200
returns-in-200 c = arm c.args.key 200 c.requires c.in-200.is

pub returns-in-201 : goal.returns-in-201
returns-in-201 c = arm c.args.key 201 c.requires c.in-201.is

pub returns-in-202 : goal.returns-in-202
returns-in-202 c = arm c.args.key 202 c.requires c.in-202.is

pub returns-in-203 : goal.returns-in-203
returns-in-203 c = arm c.args.key 203 c.requires c.in-203.is

pub returns-in-204 : goal.returns-in-204
returns-in-204 c = arm c.args.key 204 c.requires c.in-204.is

pub returns-in-205 : goal.returns-in-205
returns-in-205 c = arm c.args.key 205 c.requires c.in-205.is

pub returns-in-206 : goal.returns-in-206
returns-in-206 c = arm c.args.key 206 c.requires c.in-206.is

pub returns-in-207 : goal.returns-in-207
returns-in-207 c = arm c.args.key 207 c.requires c.in-207.is

pub returns-in-208 : goal.returns-in-208
returns-in-208 c = arm c.args.key 208 c.requires c.in-208.is

pub returns-in-209 : goal.returns-in-209
returns-in-209 c = arm c.args.key 209 c.requires c.in-209.is

pub returns-in-210 : goal.returns-in-210
returns-in-210 c = arm c.args.key 210 c.requires c.in-210.is

pub returns-in-211 : goal.returns-in-211
returns-in-211 c = arm c.args.key 211 c.requires c.in-211.is

pub returns-in-212 : goal.returns-in-212
returns-in-212 c = arm c.args.key 212 c.requires c.in-212.is

pub returns-in-213 : goal.returns-in-213
returns-in-213 c = arm c.args.key 213 c.requires c.in-213.is

pub returns-in-214 : goal.returns-in-214
returns-in-214 c = arm c.args.key 214 c.requires c.in-214.is

pub returns-in-215 : goal.returns-in-215
returns-in-215 c = arm c.args.key 215 c.requires c.in-215.is

pub returns-in-216 : goal.returns-in-216
returns-in-216 c = arm c.args.key 216 c.requires c.in-216.is

pub returns-in-217 : goal.returns-in-217
returns-in-217 c = arm c.args.key 217 c.requires c.in-217.is

pub returns-in-218 : goal.returns-in-218
returns-in-218 c = arm c.args.key 218 c.requires c.in-218.is

pub returns-in-219 : goal.returns-in-219
returns-in-219 c = arm c.args.key 219 c.requires c.in-219.is

pub returns-in-220 : goal.returns-in-220
returns-in-220 c = arm c.args.key 220 c.requires c.in-220.is

pub returns-in-221 : goal.returns-in-221
returns-in-221 c = arm c.args.key 221 c.requires c.in-221.is

pub returns-in-222 : goal.returns-in-222
returns-in-222 c = arm c.args.key 222 c.requires c.in-222.is

pub returns-in-223 : goal.returns-in-223
returns-in-223 c = arm c.args.key 223 c.requires c.in-223.is

pub returns-in-224 : goal.returns-in-224
returns-in-224 c = arm c.args.key 224 c.requires c.in-224.is

pub returns-in-225 : goal.returns-in-225
returns-in-225 c = arm c.args.key 225 c.requires c.in-225.is

pub returns-in-226 : goal.returns-in-226
returns-in-226 c = arm c.args.key 226 c.requires c.in-226.is

pub returns-in-227 : goal.returns-in-227
returns-in-227 c = arm c.args.key 227 c.requires c.in-227.is

pub returns-in-228 : goal.returns-in-228
returns-in-228 c = arm c.args.key 228 c.requires c.in-228.is

pub returns-in-229 : goal.returns-in-229
returns-in-229 c = arm c.args.key 229 c.requires c.in-229.is

pub returns-in-230 : goal.returns-in-230
returns-in-230 c = arm c.args.key 230 c.requires c.in-230.is

pub returns-in-231 : goal.returns-in-231
returns-in-231 c = arm c.args.key 231 c.requires c.in-231.is

pub returns-in-232 : goal.returns-in-232
returns-in-232 c = arm c.args.key 232 c.requires c.in-232.is

pub returns-in-233 : goal.returns-in-233
returns-in-233 c = arm c.args.key 233 c.requires c.in-233.is

pub returns-in-234 : goal.returns-in-234
returns-in-234 c = arm c.args.key 234 c.requires c.in-234.is

pub returns-in-235 : goal.returns-in-235
returns-in-235 c = arm c.args.key 235 c.requires c.in-235.is

pub returns-in-236 : goal.returns-in-236
returns-in-236 c = arm c.args.key 236 c.requires c.in-236.is

pub returns-in-237 : goal.returns-in-237
returns-in-237 c = arm c.args.key 237 c.requires c.in-237.is

pub returns-in-238 : goal.returns-in-238
returns-in-238 c = arm c.args.key 238 c.requires c.in-238.is

pub returns-in-239 : goal.returns-in-239
returns-in-239 c = arm c.args.key 239 c.requires c.in-239.is

pub returns-in-240 : goal.returns-in-240
returns-in-240 c = arm c.args.key 240 c.requires c.in-240.is

pub returns-in-241 : goal.returns-in-241
returns-in-241 c = arm c.args.key 241 c.requires c.in-241.is

pub returns-in-242 : goal.returns-in-242
returns-in-242 c = arm c.args.key 242 c.requires c.in-242.is

pub returns-in-243 : goal.returns-in-243
returns-in-243 c = arm c.args.key 243 c.requires c.in-243.is

pub returns-in-244 : goal.returns-in-244
returns-in-244 c = arm c.args.key 244 c.requires c.in-244.is

pub returns-in-245 : goal.returns-in-245
returns-in-245 c = arm c.args.key 245 c.requires c.in-245.is

pub returns-in-246 : goal.returns-in-246
returns-in-246 c = arm c.args.key 246 c.requires c.in-246.is

pub returns-in-247 : goal.returns-in-247
returns-in-247 c = arm c.args.key 247 c.requires c.in-247.is

pub returns-in-248 : goal.returns-in-248
returns-in-248 c = arm c.args.key 248 c.requires c.in-248.is

pub returns-in-249 : goal.returns-in-249
returns-in-249 c = arm c.args.key 249 c.requires c.in-249.is

pub returns-in-250 : goal.returns-in-250
returns-in-250 c = arm c.args.key 250 c.requires c.in-250.is

pub returns-in-251 : goal.returns-in-251
returns-in-251 c = arm c.args.key 251 c.requires c.in-251.is

pub returns-in-252 : goal.returns-in-252
returns-in-252 c = arm c.args.key 252 c.requires c.in-252.is

pub returns-in-253 : goal.returns-in-253
returns-in-253 c = arm c.args.key 253 c.requires c.in-253.is

pub returns-in-254 : goal.returns-in-254
returns-in-254 c = arm c.args.key 254 c.requires c.in-254.is

pub returns-in-255 : goal.returns-in-255
returns-in-255 c = arm c.args.key 255 c.requires c.in-255.is

pub returns-in-256 : goal.returns-in-256
returns-in-256 c = arm c.args.key 256 c.requires c.in-256.is

pub returns-in-257 : goal.returns-in-257
returns-in-257 c = arm c.args.key 257 c.requires c.in-257.is

pub returns-in-258 : goal.returns-in-258
returns-in-258 c = arm c.args.key 258 c.requires c.in-258.is

pub returns-in-259 : goal.returns-in-259
returns-in-259 c = arm c.args.key 259 c.requires c.in-259.is

pub returns-in-260 : goal.returns-in-260
returns-in-260 c = arm c.args.key 260 c.requires c.in-260.is

pub returns-in-261 : goal.returns-in-261
returns-in-261 c = arm c.args.key 261 c.requires c.in-261.is

pub returns-in-262 : goal.returns-in-262
returns-in-262 c = arm c.args.key 262 c.requires c.in-262.is

pub returns-in-263 : goal.returns-in-263
returns-in-263 c = arm c.args.key 263 c.requires c.in-263.is

pub returns-in-264 : goal.returns-in-264
returns-in-264 c = arm c.args.key 264 c.requires c.in-264.is

pub returns-in-265 : goal.returns-in-265
returns-in-265 c = arm c.args.key 265 c.requires c.in-265.is

pub returns-in-266 : goal.returns-in-266
returns-in-266 c = arm c.args.key 266 c.requires c.in-266.is

pub returns-in-267 : goal.returns-in-267
returns-in-267 c = arm c.args.key 267 c.requires c.in-267.is

pub returns-in-268 : goal.returns-in-268
returns-in-268 c = arm c.args.key 268 c.requires c.in-268.is

pub returns-in-269 : goal.returns-in-269
returns-in-269 c = arm c.args.key 269 c.requires c.in-269.is

pub returns-in-270 : goal.returns-in-270
returns-in-270 c = arm c.args.key 270 c.requires c.in-270.is

pub returns-in-271 : goal.returns-in-271
returns-in-271 c = arm c.args.key 271 c.requires c.in-271.is

pub returns-in-272 : goal.returns-in-272
returns-in-272 c = arm c.args.key 272 c.requires c.in-272.is

pub returns-in-273 : goal.returns-in-273
returns-in-273 c = arm c.args.key 273 c.requires c.in-273.is

pub returns-in-274 : goal.returns-in-274
returns-in-274 c = arm c.args.key 274 c.requires c.in-274.is

pub returns-in-275 : goal.returns-in-275
returns-in-275 c = arm c.args.key 275 c.requires c.in-275.is

pub returns-in-276 : goal.returns-in-276
returns-in-276 c = arm c.args.key 276 c.requires c.in-276.is

pub returns-in-277 : goal.returns-in-277
returns-in-277 c = arm c.args.key 277 c.requires c.in-277.is

pub returns-in-278 : goal.returns-in-278
returns-in-278 c = arm c.args.key 278 c.requires c.in-278.is

pub returns-in-279 : goal.returns-in-279
returns-in-279 c = arm c.args.key 279 c.requires c.in-279.is

pub returns-in-280 : goal.returns-in-280
returns-in-280 c = arm c.args.key 280 c.requires c.in-280.is

pub returns-in-281 : goal.returns-in-281
returns-in-281 c = arm c.args.key 281 c.requires c.in-281.is

pub returns-in-282 : goal.returns-in-282
returns-in-282 c = arm c.args.key 282 c.requires c.in-282.is

pub returns-in-283 : goal.returns-in-283
returns-in-283 c = arm c.args.key 283 c.requires c.in-283.is

pub returns-in-284 : goal.returns-in-284
returns-in-284 c = arm c.args.key 284 c.requires c.in-284.is

pub returns-in-285 : goal.returns-in-285
returns-in-285 c = arm c.args.key 285 c.requires c.in-285.is

pub returns-in-286 : goal.returns-in-286
returns-in-286 c = arm c.args.key 286 c.requires c.in-286.is

pub returns-in-287 : goal.returns-in-287
returns-in-287 c = arm c.args.key 287 c.requires c.in-287.is

pub returns-in-288 : goal.returns-in-288
returns-in-288 c = arm c.args.key 288 c.requires c.in-288.is

pub returns-in-289 : goal.returns-in-289
returns-in-289 c = arm c.args.key 289 c.requires c.in-289.is

pub returns-in-290 : goal.returns-in-290
returns-in-290 c = arm c.args.key 290 c.requires c.in-290.is

pub returns-in-291 : goal.returns-in-291
returns-in-291 c = arm c.args.key 291 c.requires c.in-291.is

pub returns-in-292 : goal.returns-in-292
returns-in-292 c = arm c.args.key 292 c.requires c.in-292.is

pub returns-in-293 : goal.returns-in-293
returns-in-293 c = arm c.args.key 293 c.requires c.in-293.is

pub returns-in-294 : goal.returns-in-294
returns-in-294 c = arm c.args.key 294 c.requires c.in-294.is

pub returns-in-295 : goal.returns-in-295
returns-in-295 c = arm c.args.key 295 c.requires c.in-295.is

pub returns-in-296 : goal.returns-in-296
returns-in-296 c = arm c.args.key 296 c.requires c.in-296.is

pub returns-in-297 : goal.returns-in-297
returns-in-297 c = arm c.args.key 297 c.requires c.in-297.is

pub returns-in-298 : goal.returns-in-298
returns-in-298 c = arm c.args.key 298 c.requires c.in-298.is

pub returns-in-299 : goal.returns-in-299
returns-in-299 c = arm c.args.key 299 c.requires c.in-299.is

pub returns-in-300 : goal.returns-in-300
returns-in-300 c = arm c.args.key 300 c.requires c.in-300.is

pub returns-in-301 : goal.returns-in-301
returns-in-301 c = arm c.args.key 301 c.requires c.in-301.is

pub returns-in-302 : goal.returns-in-302
returns-in-302 c = arm c.args.key 302 c.requires c.in-302.is

pub returns-in-303 : goal.returns-in-303
returns-in-303 c = arm c.args.key 303 c.requires c.in-303.is

pub returns-in-304 : goal.returns-in-304
returns-in-304 c = arm c.args.key 304 c.requires c.in-304.is

pub returns-in-305 : goal.returns-in-305
returns-in-305 c = arm c.args.key 305 c.requires c.in-305.is

pub returns-in-306 : goal.returns-in-306
returns-in-306 c = arm c.args.key 306 c.requires c.in-306.is

pub returns-in-307 : goal.returns-in-307
returns-in-307 c = arm c.args.key 307 c.requires c.in-307.is

pub returns-in-308 : goal.returns-in-308
returns-in-308 c = arm c.args.key 308 c.requires c.in-308.is

pub returns-in-309 : goal.returns-in-309
returns-in-309 c = arm c.args.key 309 c.requires c.in-309.is

pub returns-in-310 : goal.returns-in-310
returns-in-310 c = arm c.args.key 310 c.requires c.in-310.is

pub returns-in-311 : goal.returns-in-311
returns-in-311 c = arm c.args.key 311 c.requires c.in-311.is

pub returns-in-312 : goal.returns-in-312
returns-in-312 c = arm c.args.key 312 c.requires c.in-312.is

pub returns-in-313 : goal.returns-in-313
returns-in-313 c = arm c.args.key 313 c.requires c.in-313.is

pub returns-in-314 : goal.returns-in-314
returns-in-314 c = arm c.args.key 314 c.requires c.in-314.is

pub returns-in-315 : goal.returns-in-315
returns-in-315 c = arm c.args.key 315 c.requires c.in-315.is

pub returns-in-316 : goal.returns-in-316
returns-in-316 c = arm c.args.key 316 c.requires c.in-316.is

pub returns-in-317 : goal.returns-in-317
returns-in-317 c = arm c.args.key 317 c.requires c.in-317.is

pub returns-in-318 : goal.returns-in-318
returns-in-318 c = arm c.args.key 318 c.requires c.in-318.is

pub returns-in-319 : goal.returns-in-319
returns-in-319 c = arm c.args.key 319 c.requires c.in-319.is

pub returns-in-320 : goal.returns-in-320
returns-in-320 c = arm c.args.key 320 c.requires c.in-320.is

pub returns-in-321 : goal.returns-in-321
returns-in-321 c = arm c.args.key 321 c.requires c.in-321.is

pub returns-in-322 : goal.returns-in-322
returns-in-322 c = arm c.args.key 322 c.requires c.in-322.is

pub returns-in-323 : goal.returns-in-323
returns-in-323 c = arm c.args.key 323 c.requires c.in-323.is

pub returns-in-324 : goal.returns-in-324
returns-in-324 c = arm c.args.key 324 c.requires c.in-324.is

pub returns-in-325 : goal.returns-in-325
returns-in-325 c = arm c.args.key 325 c.requires c.in-325.is

pub returns-in-326 : goal.returns-in-326
returns-in-326 c = arm c.args.key 326 c.requires c.in-326.is

pub returns-in-327 : goal.returns-in-327
returns-in-327 c = arm c.args.key 327 c.requires c.in-327.is

pub returns-in-328 : goal.returns-in-328
returns-in-328 c = arm c.args.key 328 c.requires c.in-328.is

pub returns-in-329 : goal.returns-in-329
returns-in-329 c = arm c.args.key 329 c.requires c.in-329.is

pub returns-in-330 : goal.returns-in-330
returns-in-330 c = arm c.args.key 330 c.requires c.in-330.is

pub returns-in-331 : goal.returns-in-331
returns-in-331 c = arm c.args.key 331 c.requires c.in-331.is

pub returns-in-332 : goal.returns-in-332
returns-in-332 c = arm c.args.key 332 c.requires c.in-332.is

pub returns-in-333 : goal.returns-in-333
returns-in-333 c = arm c.args.key 333 c.requires c.in-333.is

pub returns-in-334 : goal.returns-in-334
returns-in-334 c = arm c.args.key 334 c.requires c.in-334.is

pub returns-in-335 : goal.returns-in-335
returns-in-335 c = arm c.args.key 335 c.requires c.in-335.is

pub returns-in-336 : goal.returns-in-336
returns-in-336 c = arm c.args.key 336 c.requires c.in-336.is

pub returns-in-337 : goal.returns-in-337
returns-in-337 c = arm c.args.key 337 c.requires c.in-337.is

pub returns-in-338 : goal.returns-in-338
returns-in-338 c = arm c.args.key 338 c.requires c.in-338.is

pub returns-in-339 : goal.returns-in-339
returns-in-339 c = arm c.args.key 339 c.requires c.in-339.is

pub returns-in-340 : goal.returns-in-340
returns-in-340 c = arm c.args.key 340 c.requires c.in-340.is

pub returns-in-341 : goal.returns-in-341
returns-in-341 c = arm c.args.key 341 c.requires c.in-341.is

pub returns-in-342 : goal.returns-in-342
returns-in-342 c = arm c.args.key 342 c.requires c.in-342.is

pub returns-in-343 : goal.returns-in-343
returns-in-343 c = arm c.args.key 343 c.requires c.in-343.is

pub returns-in-344 : goal.returns-in-344
returns-in-344 c = arm c.args.key 344 c.requires c.in-344.is

pub returns-in-345 : goal.returns-in-345
returns-in-345 c = arm c.args.key 345 c.requires c.in-345.is

pub returns-in-346 : goal.returns-in-346
returns-in-346 c = arm c.args.key 346 c.requires c.in-346.is

pub returns-in-347 : goal.returns-in-347
returns-in-347 c = arm c.args.key 347 c.requires c.in-347.is

pub returns-in-348 : goal.returns-in-348
returns-in-348 c = arm c.args.key 348 c.requires c.in-348.is

pub returns-in-349 : goal.returns-in-349
returns-in-349 c = arm c.args.key 349 c.requires c.in-349.is

pub returns-in-350 : goal.returns-in-350
returns-in-350 c = arm c.args.key 350 c.requires c.in-350.is

pub returns-in-351 : goal.returns-in-351
returns-in-351 c = arm c.args.key 351 c.requires c.in-351.is

pub returns-in-352 : goal.returns-in-352
returns-in-352 c = arm c.args.key 352 c.requires c.in-352.is

pub returns-in-353 : goal.returns-in-353
returns-in-353 c = arm c.args.key 353 c.requires c.in-353.is

pub returns-in-354 : goal.returns-in-354
returns-in-354 c = arm c.args.key 354 c.requires c.in-354.is

pub returns-in-355 : goal.returns-in-355
returns-in-355 c = arm c.args.key 355 c.requires c.in-355.is

pub returns-in-356 : goal.returns-in-356
returns-in-356 c = arm c.args.key 356 c.requires c.in-356.is

pub returns-in-357 : goal.returns-in-357
returns-in-357 c = arm c.args.key 357 c.requires c.in-357.is

pub returns-in-358 : goal.returns-in-358
returns-in-358 c = arm c.args.key 358 c.requires c.in-358.is

pub returns-in-359 : goal.returns-in-359
returns-in-359 c = arm c.args.key 359 c.requires c.in-359.is

pub returns-in-360 : goal.returns-in-360
returns-in-360 c = arm c.args.key 360 c.requires c.in-360.is

pub returns-in-361 : goal.returns-in-361
returns-in-361 c = arm c.args.key 361 c.requires c.in-361.is

pub returns-in-362 : goal.returns-in-362
returns-in-362 c = arm c.args.key 362 c.requires c.in-362.is

pub returns-in-363 : goal.returns-in-363
returns-in-363 c = arm c.args.key 363 c.requires c.in-363.is

pub returns-in-364 : goal.returns-in-364
returns-in-364 c = arm c.args.key 364 c.requires c.in-364.is

pub returns-in-365 : goal.returns-in-365
returns-in-365 c = arm c.args.key 365 c.requires c.in-365.is

pub returns-in-366 : goal.returns-in-366
returns-in-366 c = arm c.args.key 366 c.requires c.in-366.is

pub returns-in-367 : goal.returns-in-367
returns-in-367 c = arm c.args.key 367 c.requires c.in-367.is

pub returns-in-368 : goal.returns-in-368
returns-in-368 c = arm c.args.key 368 c.requires c.in-368.is

pub returns-in-369 : goal.returns-in-369
returns-in-369 c = arm c.args.key 369 c.requires c.in-369.is

pub returns-in-370 : goal.returns-in-370
returns-in-370 c = arm c.args.key 370 c.requires c.in-370.is

pub returns-in-371 : goal.returns-in-371
returns-in-371 c = arm c.args.key 371 c.requires c.in-371.is

pub returns-in-372 : goal.returns-in-372
returns-in-372 c = arm c.args.key 372 c.requires c.in-372.is

pub returns-in-373 : goal.returns-in-373
returns-in-373 c = arm c.args.key 373 c.requires c.in-373.is

pub returns-in-374 : goal.returns-in-374
returns-in-374 c = arm c.args.key 374 c.requires c.in-374.is

pub returns-in-375 : goal.returns-in-375
returns-in-375 c = arm c.args.key 375 c.requires c.in-375.is

pub returns-in-376 : goal.returns-in-376
returns-in-376 c = arm c.args.key 376 c.requires c.in-376.is

pub returns-in-377 : goal.returns-in-377
returns-in-377 c = arm c.args.key 377 c.requires c.in-377.is

pub returns-in-378 : goal.returns-in-378
returns-in-378 c = arm c.args.key 378 c.requires c.in-378.is

pub returns-in-379 : goal.returns-in-379
returns-in-379 c = arm c.args.key 379 c.requires c.in-379.is

pub returns-in-380 : goal.returns-in-380
returns-in-380 c = arm c.args.key 380 c.requires c.in-380.is

pub returns-in-381 : goal.returns-in-381
returns-in-381 c = arm c.args.key 381 c.requires c.in-381.is

pub returns-in-382 : goal.returns-in-382
returns-in-382 c = arm c.args.key 382 c.requires c.in-382.is

pub returns-in-383 : goal.returns-in-383
returns-in-383 c = arm c.args.key 383 c.requires c.in-383.is

pub returns-in-384 : goal.returns-in-384
returns-in-384 c = arm c.args.key 384 c.requires c.in-384.is

pub returns-in-385 : goal.returns-in-385
returns-in-385 c = arm c.args.key 385 c.requires c.in-385.is

pub returns-in-386 : goal.returns-in-386
returns-in-386 c = arm c.args.key 386 c.requires c.in-386.is

pub returns-in-387 : goal.returns-in-387
returns-in-387 c = arm c.args.key 387 c.requires c.in-387.is

pub returns-in-388 : goal.returns-in-388
returns-in-388 c = arm c.args.key 388 c.requires c.in-388.is

pub returns-in-389 : goal.returns-in-389
returns-in-389 c = arm c.args.key 389 c.requires c.in-389.is

pub returns-in-390 : goal.returns-in-390
returns-in-390 c = arm c.args.key 390 c.requires c.in-390.is

pub returns-in-391 : goal.returns-in-391
returns-in-391 c = arm c.args.key 391 c.requires c.in-391.is

pub returns-in-392 : goal.returns-in-392
returns-in-392 c = arm c.args.key 392 c.requires c.in-392.is

pub returns-in-393 : goal.returns-in-393
returns-in-393 c = arm c.args.key 393 c.requires c.in-393.is

pub returns-in-394 : goal.returns-in-394
returns-in-394 c = arm c.args.key 394 c.requires c.in-394.is

pub returns-in-395 : goal.returns-in-395
returns-in-395 c = arm c.args.key 395 c.requires c.in-395.is

pub returns-in-396 : goal.returns-in-396
returns-in-396 c = arm c.args.key 396 c.requires c.in-396.is

pub returns-in-397 : goal.returns-in-397
returns-in-397 c = arm c.args.key 397 c.requires c.in-397.is

pub returns-in-398 : goal.returns-in-398
returns-in-398 c = arm c.args.key 398 c.requires c.in-398.is

pub returns-in-399 : goal.returns-in-399
returns-in-399 c = arm c.args.key 399 c.requires c.in-399.is

pub returns-in-400 : goal.returns-in-400
returns-in-400 c = arm c.args.key 400 c.requires c.in-400.is

pub returns-in-401 : goal.returns-in-401
returns-in-401 c = arm c.args.key 401 c.requires c.in-401.is

pub returns-in-402 : goal.returns-in-402
returns-in-402 c = arm c.args.key 402 c.requires c.in-402.is

pub returns-in-403 : goal.returns-in-403
returns-in-403 c = arm c.args.key 403 c.requires c.in-403.is

pub returns-in-404 : goal.returns-in-404
returns-in-404 c = arm c.args.key 404 c.requires c.in-404.is

pub returns-in-405 : goal.returns-in-405
returns-in-405 c = arm c.args.key 405 c.requires c.in-405.is

pub returns-in-406 : goal.returns-in-406
returns-in-406 c = arm c.args.key 406 c.requires c.in-406.is

pub returns-in-407 : goal.returns-in-407
returns-in-407 c = arm c.args.key 407 c.requires c.in-407.is

pub returns-in-408 : goal.returns-in-408
returns-in-408 c = arm c.args.key 408 c.requires c.in-408.is

pub returns-in-409 : goal.returns-in-409
returns-in-409 c = arm c.args.key 409 c.requires c.in-409.is

pub returns-in-410 : goal.returns-in-410
returns-in-410 c = arm c.args.key 410 c.requires c.in-410.is

pub returns-in-411 : goal.returns-in-411
returns-in-411 c = arm c.args.key 411 c.requires c.in-411.is

pub returns-in-412 : goal.returns-in-412
returns-in-412 c = arm c.args.key 412 c.requires c.in-412.is

pub returns-in-413 : goal.returns-in-413
returns-in-413 c = arm c.args.key 413 c.requires c.in-413.is

pub returns-in-414 : goal.returns-in-414
returns-in-414 c = arm c.args.key 414 c.requires c.in-414.is

pub returns-in-415 : goal.returns-in-415
returns-in-415 c = arm c.args.key 415 c.requires c.in-415.is

pub returns-in-416 : goal.returns-in-416
returns-in-416 c = arm c.args.key 416 c.requires c.in-416.is

pub returns-in-417 : goal.returns-in-417
returns-in-417 c = arm c.args.key 417 c.requires c.in-417.is

pub returns-in-418 : goal.returns-in-418
returns-in-418 c = arm c.args.key 418 c.requires c.in-418.is

pub returns-in-419 : goal.returns-in-419
returns-in-419 c = arm c.args.key 419 c.requires c.in-419.is

pub returns-in-420 : goal.returns-in-420
returns-in-420 c = arm c.args.key 420 c.requires c.in-420.is

pub returns-in-421 : goal.returns-in-421
returns-in-421 c = arm c.args.key 421 c.requires c.in-421.is

pub returns-in-422 : goal.returns-in-422
returns-in-422 c = arm c.args.key 422 c.requires c.in-422.is

pub returns-in-423 : goal.returns-in-423
returns-in-423 c = arm c.args.key 423 c.requires c.in-423.is

pub returns-in-424 : goal.returns-in-424
returns-in-424 c = arm c.args.key 424 c.requires c.in-424.is

pub returns-in-425 : goal.returns-in-425
returns-in-425 c = arm c.args.key 425 c.requires c.in-425.is

pub returns-in-426 : goal.returns-in-426
returns-in-426 c = arm c.args.key 426 c.requires c.in-426.is

pub returns-in-427 : goal.returns-in-427
returns-in-427 c = arm c.args.key 427 c.requires c.in-427.is

pub returns-in-428 : goal.returns-in-428
returns-in-428 c = arm c.args.key 428 c.requires c.in-428.is

pub returns-in-429 : goal.returns-in-429
returns-in-429 c = arm c.args.key 429 c.requires c.in-429.is

pub returns-in-430 : goal.returns-in-430
returns-in-430 c = arm c.args.key 430 c.requires c.in-430.is

pub returns-in-431 : goal.returns-in-431
returns-in-431 c = arm c.args.key 431 c.requires c.in-431.is

pub returns-in-432 : goal.returns-in-432
returns-in-432 c = arm c.args.key 432 c.requires c.in-432.is

pub returns-in-433 : goal.returns-in-433
returns-in-433 c = arm c.args.key 433 c.requires c.in-433.is

pub returns-in-434 : goal.returns-in-434
returns-in-434 c = arm c.args.key 434 c.requires c.in-434.is

pub returns-in-435 : goal.returns-in-435
returns-in-435 c = arm c.args.key 435 c.requires c.in-435.is

pub returns-in-436 : goal.returns-in-436
returns-in-436 c = arm c.args.key 436 c.requires c.in-436.is

pub returns-in-437 : goal.returns-in-437
returns-in-437 c = arm c.args.key 437 c.requires c.in-437.is

pub returns-in-438 : goal.returns-in-438
returns-in-438 c = arm c.args.key 438 c.requires c.in-438.is

pub returns-in-439 : goal.returns-in-439
returns-in-439 c = arm c.args.key 439 c.requires c.in-439.is

pub returns-in-440 : goal.returns-in-440
returns-in-440 c = arm c.args.key 440 c.requires c.in-440.is

pub returns-in-441 : goal.returns-in-441
returns-in-441 c = arm c.args.key 441 c.requires c.in-441.is

pub returns-in-442 : goal.returns-in-442
returns-in-442 c = arm c.args.key 442 c.requires c.in-442.is

pub returns-in-443 : goal.returns-in-443
returns-in-443 c = arm c.args.key 443 c.requires c.in-443.is

pub returns-in-444 : goal.returns-in-444
returns-in-444 c = arm c.args.key 444 c.requires c.in-444.is

pub returns-in-445 : goal.returns-in-445
returns-in-445 c = arm c.args.key 445 c.requires c.in-445.is

pub returns-in-446 : goal.returns-in-446
returns-in-446 c = arm c.args.key 446 c.requires c.in-446.is

pub returns-in-447 : goal.returns-in-447
returns-in-447 c = arm c.args.key 447 c.requires c.in-447.is

pub returns-in-448 : goal.returns-in-448
returns-in-448 c = arm c.args.key 448 c.requires c.in-448.is

pub returns-in-449 : goal.returns-in-449
returns-in-449 c = arm c.args.key 449 c.requires c.in-449.is

pub returns-in-450 : goal.returns-in-450
returns-in-450 c = arm c.args.key 450 c.requires c.in-450.is

pub returns-in-451 : goal.returns-in-451
returns-in-451 c = arm c.args.key 451 c.requires c.in-451.is

pub returns-in-452 : goal.returns-in-452
returns-in-452 c = arm c.args.key 452 c.requires c.in-452.is

pub returns-in-453 : goal.returns-in-453
returns-in-453 c = arm c.args.key 453 c.requires c.in-453.is

pub returns-in-454 : goal.returns-in-454
returns-in-454 c = arm c.args.key 454 c.requires c.in-454.is

pub returns-in-455 : goal.returns-in-455
returns-in-455 c = arm c.args.key 455 c.requires c.in-455.is

pub returns-in-456 : goal.returns-in-456
returns-in-456 c = arm c.args.key 456 c.requires c.in-456.is

pub returns-in-457 : goal.returns-in-457
returns-in-457 c = arm c.args.key 457 c.requires c.in-457.is

pub returns-in-458 : goal.returns-in-458
returns-in-458 c = arm c.args.key 458 c.requires c.in-458.is

pub returns-in-459 : goal.returns-in-459
returns-in-459 c = arm c.args.key 459 c.requires c.in-459.is

pub returns-in-460 : goal.returns-in-460
returns-in-460 c = arm c.args.key 460 c.requires c.in-460.is

pub returns-in-461 : goal.returns-in-461
returns-in-461 c = arm c.args.key 461 c.requires c.in-461.is

pub returns-in-462 : goal.returns-in-462
returns-in-462 c = arm c.args.key 462 c.requires c.in-462.is

pub returns-in-463 : goal.returns-in-463
returns-in-463 c = arm c.args.key 463 c.requires c.in-463.is

pub returns-in-464 : goal.returns-in-464
returns-in-464 c = arm c.args.key 464 c.requires c.in-464.is

pub returns-in-465 : goal.returns-in-465
returns-in-465 c = arm c.args.key 465 c.requires c.in-465.is

pub returns-in-466 : goal.returns-in-466
returns-in-466 c = arm c.args.key 466 c.requires c.in-466.is

pub returns-in-467 : goal.returns-in-467
returns-in-467 c = arm c.args.key 467 c.requires c.in-467.is

pub returns-in-468 : goal.returns-in-468
returns-in-468 c = arm c.args.key 468 c.requires c.in-468.is

pub returns-in-469 : goal.returns-in-469
returns-in-469 c = arm c.args.key 469 c.requires c.in-469.is

pub returns-in-470 : goal.returns-in-470
returns-in-470 c = arm c.args.key 470 c.requires c.in-470.is

pub returns-in-471 : goal.returns-in-471
returns-in-471 c = arm c.args.key 471 c.requires c.in-471.is

pub returns-in-472 : goal.returns-in-472
returns-in-472 c = arm c.args.key 472 c.requires c.in-472.is

pub returns-in-473 : goal.returns-in-473
returns-in-473 c = arm c.args.key 473 c.requires c.in-473.is

pub returns-in-474 : goal.returns-in-474
returns-in-474 c = arm c.args.key 474 c.requires c.in-474.is

pub returns-in-475 : goal.returns-in-475
returns-in-475 c = arm c.args.key 475 c.requires c.in-475.is

pub returns-in-476 : goal.returns-in-476
returns-in-476 c = arm c.args.key 476 c.requires c.in-476.is

pub returns-in-477 : goal.returns-in-477
returns-in-477 c = arm c.args.key 477 c.requires c.in-477.is

pub returns-in-478 : goal.returns-in-478
returns-in-478 c = arm c.args.key 478 c.requires c.in-478.is

pub returns-in-479 : goal.returns-in-479
returns-in-479 c = arm c.args.key 479 c.requires c.in-479.is

pub returns-in-480 : goal.returns-in-480
returns-in-480 c = arm c.args.key 480 c.requires c.in-480.is

pub returns-in-481 : goal.returns-in-481
returns-in-481 c = arm c.args.key 481 c.requires c.in-481.is

pub returns-in-482 : goal.returns-in-482
returns-in-482 c = arm c.args.key 482 c.requires c.in-482.is

pub returns-in-483 : goal.returns-in-483
returns-in-483 c = arm c.args.key 483 c.requires c.in-483.is

pub returns-in-484 : goal.returns-in-484
returns-in-484 c = arm c.args.key 484 c.requires c.in-484.is

pub returns-in-485 : goal.returns-in-485
returns-in-485 c = arm c.args.key 485 c.requires c.in-485.is

pub returns-in-486 : goal.returns-in-486
returns-in-486 c = arm c.args.key 486 c.requires c.in-486.is

pub returns-in-487 : goal.returns-in-487
returns-in-487 c = arm c.args.key 487 c.requires c.in-487.is

pub returns-in-488 : goal.returns-in-488
returns-in-488 c = arm c.args.key 488 c.requires c.in-488.is

pub returns-in-489 : goal.returns-in-489
returns-in-489 c = arm c.args.key 489 c.requires c.in-489.is

pub returns-in-490 : goal.returns-in-490
returns-in-490 c = arm c.args.key 490 c.requires c.in-490.is

pub returns-in-491 : goal.returns-in-491
returns-in-491 c = arm c.args.key 491 c.requires c.in-491.is

pub returns-in-492 : goal.returns-in-492
returns-in-492 c = arm c.args.key 492 c.requires c.in-492.is

pub returns-in-493 : goal.returns-in-493
returns-in-493 c = arm c.args.key 493 c.requires c.in-493.is

pub returns-in-494 : goal.returns-in-494
returns-in-494 c = arm c.args.key 494 c.requires c.in-494.is

pub returns-in-495 : goal.returns-in-495
returns-in-495 c = arm c.args.key 495 c.requires c.in-495.is

pub returns-in-496 : goal.returns-in-496
returns-in-496 c = arm c.args.key 496 c.requires c.in-496.is

pub returns-in-497 : goal.returns-in-497
returns-in-497 c = arm c.args.key 497 c.requires c.in-497.is

pub returns-in-498 : goal.returns-in-498
returns-in-498 c = arm c.args.key 498 c.requires c.in-498.is

pub returns-in-499 : goal.returns-in-499
returns-in-499 c = arm c.args.key 499 c.requires c.in-499.is

pub returns-in-500 : goal.returns-in-500
returns-in-500 c = arm c.args.key 500 c.requires c.in-500.is

pub returns-in-501 : goal.returns-in-501
returns-in-501 c = arm c.args.key 501 c.requires c.in-501.is

pub returns-in-502 : goal.returns-in-502
returns-in-502 c = arm c.args.key 502 c.requires c.in-502.is

pub returns-in-503 : goal.returns-in-503
returns-in-503 c = arm c.args.key 503 c.requires c.in-503.is

pub returns-in-504 : goal.returns-in-504
returns-in-504 c = arm c.args.key 504 c.requires c.in-504.is

pub returns-in-505 : goal.returns-in-505
returns-in-505 c = arm c.args.key 505 c.requires c.in-505.is

pub returns-in-506 : goal.returns-in-506
returns-in-506 c = arm c.args.key 506 c.requires c.in-506.is

pub returns-in-507 : goal.returns-in-507
returns-in-507 c = arm c.args.key 507 c.requires c.in-507.is

pub returns-in-508 : goal.returns-in-508
returns-in-508 c = arm c.args.key 508 c.requires c.in-508.is

pub returns-in-509 : goal.returns-in-509
returns-in-509 c = arm c.args.key 509 c.requires c.in-509.is

pub returns-in-510 : goal.returns-in-510
returns-in-510 c = arm c.args.key 510 c.requires c.in-510.is

pub returns-in_default : goal.returns-in_default
returns-in_default c = arm c.args.key 511 c.requires (last 511 c.args.key c.requires c.in_default.in_default-own.rest)
