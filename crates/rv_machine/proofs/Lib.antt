mod OnePage
